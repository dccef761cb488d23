-- The greatest of held figures, the first place that reaches it, and a record's mode 2 figure by what it holds. Assumes nothing.
use Rattle.std.specs.Prelude.{◌≡◌, ◌⊎◌, Bool, true, false, ℕ, suc, ◌≤◌, ◌<◌, ℤ, ◌+ℤ◌, ◌≤ℤ◌}
use Rattle.std.proofs.Math.Path.{refl, ap, subst}
use Rattle.std.proofs.Common.{sym, ◌∙◌, inl, inr, ⊎_elim, arith}
use mathlib.Core.List.Memᴰ
use mathlib.Core.List.{List, [], ◌∷◌, map, Memᴰ}
use Rattle.std.specs.Int.Signed.{le_z, ≤ℤ_refl}
use Rattle.number.specs.Integer.{max_z}
use Rattle.number.specs.IntegerLaws.{zed, max-law, ≤_trans, +-mono}
use Rattle.modes.specs.FourModes.{Amounts, heaviest, lift, line_of}
use Rattle.modes.proofs.RunUnique.{figure-same}
use Rattle.modes.specs.declared.Held.{Held}
use Rattle.modes.specs.declared.Held.TheVariants.{Nothing, Figure}
use Rattle.hill.specs.Log.{Record}
use Rattle.hill.specs.Closing.{OpensAt, Holds, Places}
use Rattle.hill.specs.Sorted.{Sorted}
use Rattle.hill.specs.Figure.{figure_at, combined}
use Rattle.hill.proofs.HeldPlaces.{held-listed, held-figure}
use Rattle.log_records.specs.Line.{held_by, greatest_held}
use Rattle.log_records.specs.Claims.{value_of, record_value, Reaches, TakesGreatest}

-- ---- the greatest of figures

nothing-figure : {b : ℤ} → Nothing ≡ Figure b → ⊥
nothing-figure e = let z : ◌≡◌ {A = ℕ} 0 1 = cc in omega arith

over-left : (x : Held) (a : ℤ) → (b : ℤ) × (lift max_z (Figure a) x ≡ Figure b) × (a ≤ℤ b)
unfolding lift
over-left Nothing a = (a, refl, ≤ℤ_refl a)
over-left (Figure c) a = (max_z a c, refl, omega (zed, max-law a c))

over-right : (x : Held) (a : ℤ) → (b : ℤ) × (lift max_z x (Figure a) ≡ Figure b) × (a ≤ℤ b)
unfolding lift
over-right Nothing a = (a, refl, ≤ℤ_refl a)
over-right (Figure c) a = (max_z c a, refl, omega (zed, max-law c a))

-- each is at most the greatest
member-under : (f : ℕ → Held) (qs : List ℕ) (q : ℕ) (a : ℤ) → Memᴰ q qs → f q ≡ Figure a → (b : ℤ) × (combined heaviest (map f qs) ≡ Figure b) × (a ≤ℤ b)
member-under f [] q a m e = absurd (Memᴰ.not-nil m)
member-under f (k ∷ qs) q a m e =
    ⊎_elim
    (λ (g : q ≡ k).
    let w = over-left (combined heaviest (map f qs)) a in
    (w.0, ap (λ x. lift max_z x (combined heaviest (map f qs))) (ap f (sym g) ∙ e) ∙ w.1, w.2))
    (λ n.
    let i = member-under f qs q a n e in
    let w = over-right (f k) i.0 in
    (w.0, ap (lift max_z (f k)) i.1 ∙ w.1, ≤_trans i.2 w.2))
    (Memᴰ.cases_cons m)

-- the first that reaches it
pub record FirstReaching (f : ℕ → Held) (qs : List ℕ) (b : ℤ) : Type 0 where
  pub place : ℕ
  pub member : Memᴰ place qs
  pub figure : f place ≡ Figure b
  pub earliest : (k : ℕ) → Memᴰ k qs → f k ≡ Figure b → place ≤ k

first-here : (f : ℕ → Held) (k : ℕ) (qs : List ℕ) (b : ℤ) → Sorted ◌<◌ (k ∷ qs) → f k ≡ Figure b → FirstReaching f (k ∷ qs) b
first-here f k qs b r e = record {
  place = k;
  member = Memᴰ.head refl;
  figure = e;
  earliest = λ j m g. ⊎_elim (λ (h : j ≡ k). omega arith) (λ n. omega (arith, r.0 j n)) (Memᴰ.cases_cons m);
}

first-later : (f : ℕ → Held) (k : ℕ) (qs : List ℕ) (b : ℤ) → (f k ≡ Figure b → ⊥) → FirstReaching f qs b → FirstReaching f (k ∷ qs) b
first-later f k qs b other w = record {
  place = w.place;
  member = Memᴰ.tail w.member;
  figure = w.figure;
  earliest = λ j m g. ⊎_elim (λ (h : j ≡ k). absurd (other (ap f (sym h) ∙ g))) (λ n. w.earliest j n g) (Memᴰ.cases_cons m);
}

first_some : (f : ℕ → Held) (qs : List ℕ) (b : ℤ) → Sorted ◌<◌ qs → combined heaviest (map f qs) ≡ Figure b → FirstReaching f qs b
unfolding lift
first_some f [] b r e = absurd (nothing-figure e)
first_some f (k ∷ qs) b r e = go (f k) refl (combined heaviest (map f qs)) refl (first_some f qs b r.1) e
  where
    two : (c g : ℤ) → f k ≡ Figure c → combined heaviest (map f qs) ≡ Figure g → (combined heaviest (map f qs) ≡ Figure b → FirstReaching f qs b) → max_z c g ≡ b → (t : Bool) → le_z g c ≡ t → FirstReaching f (k ∷ qs) b
    two c g u v ih x true t = let h : c ≡ b = omega (zed, max-law c g, t, x) in first-here f k qs b r (u ∙ ap Figure h)
    two c g u v ih x false t =
        let h : g ≡ b = omega (zed, max-law c g, t, x) in
        first-later f k qs b (λ y. let z : c ≡ b = figure-same (sym u ∙ y) in omega (zed, t, h, z)) (ih (v ∙ ap Figure h))

    go : (x : Held) → f k ≡ x → (y : Held) → combined heaviest (map f qs) ≡ y → (combined heaviest (map f qs) ≡ Figure b → FirstReaching f qs b) → lift max_z x y ≡ Figure b → FirstReaching f (k ∷ qs) b
    go Nothing u y v ih e = first-later f k qs b (λ z. nothing-figure (sym u ∙ z)) (ih (v ∙ e))
    go (Figure c) u Nothing v ih e = first-here f k qs b r (u ∙ e)
    go (Figure c) u (Figure g) v ih e = two c g u v ih (figure-same e) (le_z g c) refl

-- ---- a record's figure and what it holds

module _ (xs : List (Record Amounts)) where
  module _ (p d : ℕ) (o : OpensAt xs p d) where
    value-is : o.0.value ≡ record_value xs p
    value-is = ap value_of (sym o.1)

    figure-is : Reaches xs p (line_of o.0.value (greatest_held xs p d))
    figure-is = held-figure heaviest xs p d o.0 o.1 (held_by xs p d) (held-listed xs p d o)

    -- an opened record has a figure
    pub has-figure : (b : ℤ) × Reaches xs p b
    has-figure = (line_of o.0.value (greatest_held xs p d), figure-is)

    -- one that holds nothing has its own value
    pub alone : ((q : ℕ) → Holds xs p q d → ⊥) → Reaches xs p (record_value xs p)
    unfolding line_of
    alone none = figure-is ∙ go (held_by xs p d) (λ q m. none q ((held-listed xs p d o).only q m))
      where
        go : (qs : List ℕ) → ((q : ℕ) → Memᴰ q qs → ⊥) → Figure (line_of o.0.value (combined heaviest (map (figure_at heaviest xs) qs))) ≡ Figure (record_value xs p)
        go [] h = ap Figure value-is
        go (q ∷ qs) h = absurd (h q (Memᴰ.head refl))

  -- no held record reaches more
  pub under : (p d : ℕ) (o : OpensAt xs p d) (q : ℕ) (a b : ℤ) → Holds xs p q d → Reaches xs q a → Reaches xs p b → (record_value xs p +ℤ a) ≤ℤ b
  unfolding line_of
  under p d o q a b h e g =
      let w = member-under (figure_at heaviest xs) (held_by xs p d) q a ((held-listed xs p d o).all q h) e in
      let s : b ≡ record_value xs p +ℤ w.0 = figure-same (sym g ∙ figure-is p d o ∙ ap (λ x. Figure (line_of o.0.value x)) w.1) ∙ ap (λ (z : ℤ). z +ℤ w.0) (value-is p d o) in
      subst (λ (z : ℤ). (record_value xs p +ℤ a) ≤ℤ z) (sym s) (+-mono (≤ℤ_refl (record_value xs p)) w.2)

  -- ---- one step: a record holds nothing, or an earliest held one reaches the greatest held figure

  pub record Stepped (p d : ℕ) : Type 0 where
    pub rest : ℤ
    pub held : greatest_held xs p d ≡ Figure rest
    pub first : FirstReaching (figure_at heaviest xs) (held_by xs p d) rest
    pub holds : Holds xs p first.place d
    pub takes : (s : ℤ) → TakesGreatest xs s p first.place
    pub adds : Reaches xs p (record_value xs p +ℤ rest)

  pub stepped : (p d : ℕ) → OpensAt xs p d → ((q : ℕ) → Holds xs p q d → ⊥) ⊎ Stepped p d
  unfolding line_of
  stepped p d o = go (greatest_held xs p d) refl
    where
      l : Places (λ q. Holds xs p q d) (held_by xs p d)
      l = held-listed xs p d o

      most : (b : ℤ) → greatest_held xs p d ≡ Figure b → (k : ℕ) (a : ℤ) → Holds xs p k d → Reaches xs k a → a ≤ℤ b
      most b e k a h r =
          let w = member-under (figure_at heaviest xs) (held_by xs p d) k a (l.all k h) r in
          subst (λ (z : ℤ). a ≤ℤ z) (figure-same (sym w.1 ∙ e)) w.2

      go : (x : Held) → greatest_held xs p d ≡ x → ((q : ℕ) → Holds xs p q d → ⊥) ⊎ Stepped p d
      go Nothing e = inl (λ q h.
          let u = has-figure q (suc d) h.held in
          nothing-figure (sym e ∙ (member-under (figure_at heaviest xs) (held_by xs p d) q u.0 (l.all q h) u.1).1))
      go (Figure b) e =
          let w = first_some (figure_at heaviest xs) (held_by xs p d) b l.rising e in
          inr (record {
            rest = b;
            held = e;
            first = w;
            holds = l.only w.place w.member;
            takes = λ s. record { depth = d; holds = l.only w.place w.member; most = b; reaches = w.figure; greatest = most b e; earliest = λ k h g. w.earliest k (l.all k h) g };
            adds = figure-is p d o ∙ ap (λ x. Figure (line_of o.0.value x)) e ∙ ap (λ (z : ℤ). Figure (z +ℤ b)) (value-is p d o);
          })
