-- Laws of the printed line: its spaces and its newline stand where document 01 says and nowhere else, and it reads back.
-- Assumes nothing.
use Rattle.std.specs.Prelude.{◌≡◌, refl, List, [], ◌∷◌, ◌++◌, ℕ, suc, ◌≤◌, ◌<◌, ℤ, pos, negsuc}
use Rattle.std.proofs.Common.{sym, ap, ◌∙◌, append_assoc, arith, eq-eqb, ne_eqb, lit<, lit≤}
use Rattle.gate.specs.Outcome.{Outcome, refused, granted}
use Rattle.text.specs.Decimal.{digits_of, decimal_of, Digits}
use Rattle.text.proofs.DecimalLaws.{digits-digits, read-digits, read-decimal}
use Rattle.outcome.specs.Line.{ascii, line_text, day_line, pieces, read_line}
use Rattle.outcome.specs.declared.Figures.{Figures}

-- ---- cutting

-- every byte is above b
abbrev Above : ℕ → List ℕ → Type 0
Above b [] = Unit {0}
Above b (x ∷ s) = (b < x) × Above b s

above-less : (a b : ℕ) (s : List ℕ) → a ≤ b → Above b s → Above a s
above-less a b [] h v = tt
above-less a b (x ∷ s) h v = (omega arith, above-less a b s h v.1)

above-append : (b : ℕ) (s t : List ℕ) → Above b s → Above b t → Above b (s ++ t)
above-append b [] t v w = w
above-append b (x ∷ s) t v w = (v.0, above-append b s t v.1 w)

pieces-one : (b : ℕ) (s : List ℕ) → Above b s → pieces b s ≡ s ∷ []
unfolding pieces
pieces-one b [] v = refl
pieces-one b (x ∷ s) v = rw (ne_eqb x b (λ e. absurd (omega arith)), pieces-one b s v.1)

pieces_more : (b : ℕ) (s t : List ℕ) → Above b s → pieces b (s ++ (b ∷ t)) ≡ s ∷ pieces b t
unfolding pieces
pieces_more b [] t v = rw (eq-eqb b b refl)
pieces_more b (x ∷ s) t v = rw (ne_eqb x b (λ e. absurd (omega arith)), pieces_more b s t v.1)

-- ---- what the numbers and the words are made of

above-digits : (s : List ℕ) → Digits s → Above 32 s
above-digits [] d = tt
above-digits (x ∷ s) d = (omega arith, above-digits s d.2)

above-number : (n : ℕ) → Above 32 (digits_of n)
above-number n = above-digits (digits_of n) (digits-digits n)

above-decimal : (z : ℤ) → Above 32 (decimal_of z)
unfolding decimal_of
above-decimal (pos n) = above-number n
above-decimal (negsuc n) = (lit< tt, above-number (suc n))

-- ---- ONE SPACE between two words, and nowhere else

spread : (f : Figures) → line_text (granted f) ≡ decimal_of f.net ++ (32 ∷ (decimal_of f.heaviest ++ (32 ∷ (decimal_of f.eaten ++ (32 ∷ decimal_of f.stamp)))))
unfolding line_text ascii
spread f = simp append_assoc

pub line-spaces : (f : Figures) → pieces 32 (line_text (granted f)) ≡ decimal_of f.net ∷ decimal_of f.heaviest ∷ decimal_of f.eaten ∷ decimal_of f.stamp ∷ []
line-spaces f =
    rw (
      spread f,
      pieces_more 32 (decimal_of f.net) _ (above-decimal f.net),
      pieces_more 32 (decimal_of f.heaviest) _ (above-decimal f.heaviest),
      pieces_more 32 (decimal_of f.eaten) _ (above-decimal f.eaten),
      pieces-one 32 (decimal_of f.stamp) (above-decimal f.stamp),
    )

refusal : (n : ℕ) → line_text (refused n) ≡ ascii "refused" ++ (32 ∷ digits_of n)
unfolding line_text ascii
refusal n = refl

above_word : Above 32 (ascii "refused")
unfolding ascii
above_word = (lit< tt, (lit< tt, (lit< tt, (lit< tt, (lit< tt, (lit< tt, (lit< tt, tt)))))))

pub refusal-spaces : (n : ℕ) → pieces 32 (line_text (refused n)) ≡ ascii "refused" ∷ digits_of n ∷ []
refusal-spaces n = rw (refusal n, pieces_more 32 (ascii "refused") (digits_of n) above_word, pieces-one 32 (digits_of n) (above-number n))

-- ---- THE NEWLINE AT THE END, and nowhere else

wide : (s t : List ℕ) → Above 32 s → Above 10 t → Above 10 (s ++ (32 ∷ t))
wide s t v w = above-append 10 s (32 ∷ t) (above-less 10 32 s (lit≤ tt) v) (lit< tt, w)

above-text : (o : Outcome Figures) → Above 10 (line_text o)
above-text (refused n) = rw (refusal n) (wide (ascii "refused") (digits_of n) above_word (above-less 10 32 (digits_of n) (lit≤ tt) (above-number n)))
above-text (granted f) =
    rw (spread f)
    (wide (decimal_of f.net) _ (above-decimal f.net)
    (wide (decimal_of f.heaviest) _ (above-decimal f.heaviest)
    (wide (decimal_of f.eaten) _ (above-decimal f.eaten)
    (above-less 10 32 (decimal_of f.stamp) (lit≤ tt) (above-decimal f.stamp)))))

pub line-newline : (o : Outcome Figures) → pieces 10 (day_line o) ≡ line_text o ∷ [] ∷ []
unfolding day_line ascii pieces
line-newline o = pieces_more 10 (line_text o) [] (above-text o)

-- ---- THE LINE READS BACK, so different outcomes have different lines

pub read-line : (o : Outcome Figures) → read_line (day_line o) ≡ o
read-line (refused n) = rw (line-newline (refused n), refusal-spaces n, read-digits n)
read-line (granted f) =
    rw (line-newline (granted f), line-spaces f, read-decimal f.net, read-decimal f.heaviest, read-decimal f.eaten, read-decimal f.stamp)

pub line-injective : (o p : Outcome Figures) → day_line o ≡ day_line p → o ≡ p
line-injective o p e = sym (read-line o) ∙ ap (λ (s : List ℕ). read_line s) e ∙ read-line p
