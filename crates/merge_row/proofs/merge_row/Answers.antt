-- The number of pieces first, then their questions 5 and 6, and then they are merged.
use Rattle.gate.proofs.Promises.{refuses, comes-to}
use Rattle.merge_row.specs.CallLaws.{few-4, many-4, some_bytes, row-refused, is_row, row_is}
use Rattle.std.specs.Prelude.{length}
use Rattle.std.proofs.lemmas.Result.{err_from_is_err_and}
use Rattle.merge_row.proofs.merge_row.Goals as goal

pub returns-then-count-lt2 : goal.returns-then-count-lt2
returns-then-count-lt2 c =
    let p = refuses c.args.out.now (few-4 c.args.pieces.now (length c.args.out.now) c.count_pieces-count.ensures c.if-count-lt2.true) in
    record { answer = p.0; buffer = p.1 }

pub returns-then-count-gt64 : goal.returns-then-count-gt64
returns-then-count-gt64 c =
    let p = refuses c.args.out.now (many-4 c.args.pieces.now (length c.args.out.now) c.count_pieces-count.ensures c.if-count-gt64.true) in
    record { answer = p.0; buffer = p.1 }

pub mode_of_all-requires : goal.mode_of_all-requires
mode_of_all-requires c = some_bytes c.args.pieces.now (length c.args.out.now) c.count_pieces-count.ensures c.if-count-lt2.false c.if-count-gt64.false

pub merge_accepted-requires : goal.merge_accepted-requires
merge_accepted-requires c = is_row c.args.pieces.now (length c.args.out.now) c.count_pieces-count.ensures c.if-count-lt2.false c.if-count-gt64.false c.in_ok-mode.ensures

pub returns : goal.returns
returns c =
    let p = comes-to (row_is c.args.pieces.now (length c.args.out.now) c.count_pieces-count.ensures c.if-count-lt2.false c.if-count-gt64.false c.in_ok-mode.ensures) c.merge_accepted.ensures in
    record { answer = p.0; buffer = p.1 }

pub returns-in_err-mode : goal.returns-in_err-mode
returns-in_err-mode c =
    let e = err_from_is_err_and c.from_residual.result c.from_residual.ensures.1 in
    let p = refuses c.args.out.now (row-refused c.args.pieces.now (length c.args.out.now) c.count_pieces-count.ensures c.if-count-lt2.false c.if-count-gt64.false c.in_err-mode.ensures) in
    record { answer = rw (e.1, e.2) p.0; buffer = p.1 }
