-- Each number is a stored stamp, so its bits are the number; products and sums wrap.
use Rattle.std.proofs.Common.{ℕ, ◌+◌, ◌*◌, ◌%◌, ◌^◌, pos, ap, ◌∙◌, ap₂, w64, rules}
use native.Mathlib.Nat.{mod-add-mod}
use Rattle.number.specs.Integer.{up}
use Rattle.number.specs.Word.{back}
use Rattle.figure.specs.Mode.{mode_of}
use Rattle.figure.specs.Stored.{run_after}
use Rattle.figure.proofs.Modes.{stamp-range, stamp-number}
use Rattle.figure.proofs.Rooms.{Back, fields_back, stamp-first, stamp-second}
use Rattle.figure.proofs.runs.compose_stamp.Goals as goal

pub to_u32-m-requires : goal.to_u32-m-requires
to_u32-m-requires c =
    let f : Back c.args.outer = fields_back c.args.outer (search rules) (search rules) (search rules) (search rules) in
    let g : Back c.args.inner = fields_back c.args.inner (search rules) (search rules) (search rules) (search rules) in
    simp f.first_back (stamp-range c.args.outer.first (stamp-first c.args.outer c.requires.outer-run))

pub to_u32-q-requires : goal.to_u32-q-requires
to_u32-q-requires c =
    let f : Back c.args.outer = fields_back c.args.outer (search rules) (search rules) (search rules) (search rules) in
    let g : Back c.args.inner = fields_back c.args.inner (search rules) (search rules) (search rules) (search rules) in
    simp f.second_back (stamp-range c.args.outer.second (stamp-second c.args.outer c.requires.outer-run))

pub to_u32-n-requires : goal.to_u32-n-requires
to_u32-n-requires c =
    let f : Back c.args.outer = fields_back c.args.outer (search rules) (search rules) (search rules) (search rules) in
    let g : Back c.args.inner = fields_back c.args.inner (search rules) (search rules) (search rules) (search rules) in
    simp g.first_back (stamp-range c.args.inner.first (stamp-first c.args.inner c.requires.inner-run))

pub to_u32-p-requires : goal.to_u32-p-requires
to_u32-p-requires c =
    let f : Back c.args.outer = fields_back c.args.outer (search rules) (search rules) (search rules) (search rules) in
    let g : Back c.args.inner = fields_back c.args.inner (search rules) (search rules) (search rules) (search rules) in
    simp g.second_back (stamp-range c.args.inner.second (stamp-second c.args.inner c.requires.inner-run))

pub returns : goal.returns
unfolding run_after mode_of
returns c =
    let f : Back c.args.outer = fields_back c.args.outer (search rules) (search rules) (search rules) (search rules) in
    let g : Back c.args.inner = fields_back c.args.inner (search rules) (search rules) (search rules) (search rules) in
    let m = ap up (c.to_u32-m.ensures ∙ f.first_back) ∙ stamp-number c.args.outer.first (stamp-first c.args.outer c.requires.outer-run) in
    let q = ap up (c.to_u32-q.ensures ∙ f.second_back) ∙ stamp-number c.args.outer.second (stamp-second c.args.outer c.requires.outer-run) in
    let n = ap up (c.to_u32-n.ensures ∙ g.first_back) ∙ stamp-number c.args.inner.first (stamp-first c.args.inner c.requires.inner-run) in
    let p = ap up (c.to_u32-p.ensures ∙ g.second_back) ∙ stamp-number c.args.inner.second (stamp-second c.args.inner c.requires.inner-run) in
    let a = back w64 c.from-first.result c.from-first.type_inv ∙ c.from-first.ensures
    ∙ ap pos (c.wrapping_mul.ensures ∙ ap₂ (λ (x y : ℕ). (x * y) % 2 ^ 32) m n) in
    let b = back w64 c.from-second.result c.from-second.type_inv ∙ c.from-second.ensures
    ∙ ap pos (ap₂ (λ (x y : ℕ). (x + y) % 2 ^ 32) (c.wrapping_mul-2.ensures ∙ ap₂ (λ (x y : ℕ). (x * y) % 2 ^ 32) m p) q
    ∙ mod-add-mod (up c.args.outer.first % 2 ^ 32 * (up c.args.inner.second % 2 ^ 32)) (2 ^ 32) (up c.args.outer.second % 2 ^ 32)) in
    λ i. record { first = a i; second = b i; third = pos 0; fourth = pos 0 }
