-- A page of a log that was let through: where it starts, how many lines it has, and how many bytes they take. Assumes nothing.
use Rattle.std.specs.Prelude.{◌≡◌, refl, true, List, ℕ, suc, ◌-◌, ◌*◌, ◌≤◌, ◌<◌, min, length, take, drop, Ok, Err}
use Rattle.std.proofs.Common.{sym, ap, ◌∙◌, arith, length-drop, take_all, lt-ltb, le-ltb}
use Rattle.std.proofs.Math.Logic.{dite}
use Rattle.std.proofs.Math.Decide.{dec_lt}
use Rattle.std.proofs.Math.Seq.{take-length}
use Rattle.gate.specs.Outcome.{granted, written, buffer_after}
use Rattle.gate.specs.Promises.{Answers}
use Rattle.gate.proofs.Promises.{answer-fits, answer-short}
use Rattle.gate.specs.declared.Refusal.TheVariants as no
use Rattle.modes.specs.FourModes.{Amounts}
use Rattle.figure.specs.Mode.{mode_in_use}
use Rattle.hill.specs.Log.{Record, opened_of}
use Rattle.hill.specs.Row.{joined}
use Rattle.chunk.specs.Laws.{IsLog}
use Rattle.chunk.proofs.Laws.{one-log}
use Rattle.whole_log.specs.AskLaws.{Opens}
use Rattle.day_sheet.specs.Sheet.{sheet_lines, page_text, page_outcome}
use Rattle.day_sheet.proofs.PageLaws.{lines-length, is-page}
use Rattle.sheet.specs.declared.page.Page.{Page}
use Rattle.sheet.specs.Promised.{lines_at, PageFits}

-- The page as `print` takes it.
abbrev pub page_at : (mode first lines : ℕ) → Page
page_at mode first lines = record { mode = mode; first = first; lines = lines }

-- 60 lines, or as many as there are
page-is : (mode page : ℕ) (xs : List (Record Amounts)) {first lines : ℕ} → first ≡ 60 * page → lines ≡ min 60 (opened_of xs - first) → joined (lines_at (page_at mode first lines) xs) ≡ page_text mode page xs
unfolding page_text
page-is mode page xs {first} {lines} e l =
    let ls : List (List ℕ) = drop first (sheet_lines mode xs) in
    let n : lines ≡ min 60 (length ls) = l ∙ ap (min 60) (sym (length-drop first (sheet_lines mode xs) ∙ ap (λ k. k - first) (lines-length mode 0 xs))) in
    ap joined (ap (λ k. take k ls) n ∙ cut 60 ls ∙ ap (λ k. take 60 (drop k (sheet_lines mode xs))) e)
  where
    cut : (n : ℕ) (ls : List (List ℕ)) → take (min n (length ls)) ls ≡ take n ls
    cut n ls = dite (dec_lt n (length ls))
        (λ h. let m : min n (length ls) ≡ n = omega arith in ap (λ k. take k ls) m)
        (λ h. let m : min n (length ls) ≡ length ls = omega arith in ap (λ k. take k ls) m ∙ take-length ls ∙ sym (take_all n ls (omega arith)))

module _ (mode page : ℕ) {log : List ℕ} {opened : ℕ} (u : mode_in_use mode ≡ true) (w : Opens log opened) (xs : List (Record Amounts)) (i : IsLog log xs) where
  count : opened ≡ opened_of xs
  count = w.count ∙ ap opened_of (one-log w.is.formed i.formed)

  -- 18
  pub past : (before : List ℕ) → opened ≤ 60 * page → Answers (page_outcome mode page (length before) xs) before before (Err no.NoSuchPage)
  past before h = rw (le-ltb (60 * page) (opened_of xs) (omega (arith, count))) record { answered = refl; buffer = refl }

  module _ (starts : 60 * page < opened) {first lines : ℕ} (e : first ≡ 60 * page) (l : lines ≡ min 60 (opened - first)) (before : List ℕ) where
    asked : page_outcome mode page (length before) xs ≡ written (length before) (page_text mode page xs)
    asked = rw (lt-ltb (60 * page) (opened_of xs) (omega (arith, count)))

    lines_are : lines ≡ min 60 (opened_of xs - first)
    lines_are = l ∙ ap (λ k. min 60 (k - first)) count

    total : 27 * lines ≡ length (page_text mode page xs)
    total =
        let p = is-page mode u i.formed page (omega (arith, count)) in
        dite (dec_lt (opened_of xs) (60 * suc page)) (λ h. omega (arith, p.long, p.last h, lines_are)) (λ h. omega (arith, p.long, p.full (omega arith), lines_are))

    -- 12
    pub short : length before < 27 * lines → Answers (page_outcome mode page (length before) xs) before before (Err no.BufferTooShort)
    short h = rw asked (answer-short (page_text mode page xs) before (omega (arith, total)))

    -- the page
    pub put : {after : List ℕ} {n : ℕ} → n ≡ 27 * lines → 27 * lines ≤ length before → after ≡ buffer_after (granted (joined (lines_at (page_at mode first lines) xs))) before
        → Answers (page_outcome mode page (length before) xs) before after (Ok n)
    put en h b = rw asked (answer-fits (page_text mode page xs) before (omega (arith, total)) (en ∙ total) (b ∙ ap (λ t. buffer_after (granted t) before) (page-is mode page xs e lines_are)))

pub page-fits : {log : List ℕ} {mode opened first lines room : ℕ} → mode_in_use mode ≡ true → Opens log opened → first < opened → lines ≡ min 60 (opened - first) → 27 * lines ≤ room → PageFits log (page_at mode first lines) room
page-fits u w s l h = record { in_use = u; records = w.records; is = w.is.formed; there = omega (arith, w.count); fits = h }
