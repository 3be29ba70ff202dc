-- Paths that go by one place, and paths that do not.
use Rattle.std.proofs.Common.{◌≡◌, Bool, false, not, ◌&&◌, ◌||◌, List, [], ◌∷◌, ◌++◌, sym, refl, arith}
use Rattle.events.specs.declared.name.Name.{Name}
use Rattle.fugue.specs.Names.{Ordered}
use Rattle.fugue.specs.Paths.{Step, left, end, right, step_before, path_before}
use Rattle.fugue.proofs.Paths.{step_irreflexive, step_transitive, step_total}

-- a list of steps that ends at its first end
abbrev pub Ended : List Step → Type 0
Ended [] = ⊥
Ended (left a ∷ p) = Ended p
Ended (end ∷ p) = p ≡ []
Ended (right a ∷ p) = Ended p

module _ (before : Name → Name → Bool) (o : Ordered before) where
  pub alike : (u p q : List Step) → path_before before (u ++ p) (u ++ q) ≡ path_before before p q
  alike [] p q = refl
  alike (a ∷ u) p q = let ih = alike u p q in grind (arith, step_irreflexive before o a)

  pub by_name : (w x : Name) (p q : List Step) → (w ≡ x → ⊥) → (before w x || (not (before x w) && path_before before p q)) ≡ before w x
  by_name w x p q d = grind (arith, o.total w x, d)

  step_left : (a b : Step) (X Y : Bool) → (a ≡ b → X ≡ Y) → (step_before before a b || (not (step_before before b a) && X)) ≡ (step_before before a b || (not (step_before before b a) && Y))
  step_left a b X Y h = grind (arith, step_total before o a b, h)

  step_right : (a b : Step) (X Y : Bool) → (a ≡ b → X ≡ not Y) → (step_before before a b || (not (step_before before b a) && X)) ≡ not (step_before before b a || (not (step_before before a b) && Y))
  step_right a b X Y h = grind (arith, step_total before o a b, step_irreflexive before o a, step_transitive before o a b a, h)

  not_nil : (p : List Step) → path_before before p [] ≡ false
  not_nil [] = refl
  not_nil (a ∷ p) = refl

  -- beside a step to the left
  pub beside_left : (u p : List Step) (x : Name) → ((w : Name) (r : List Step) → p ≡ u ++ left w ∷ r → ⊥)
      → path_before before p (u ++ left x ∷ end ∷ []) ≡ path_before before p (u ++ end ∷ [])
  beside_left [] [] x h = refl
  beside_left [] (left a ∷ p) x h = absurd (h a p refl)
  beside_left [] (end ∷ p) x h = sym (not_nil p)
  beside_left [] (right a ∷ p) x h = refl
  beside_left (b ∷ u) [] x h = refl
  beside_left (b ∷ u) (a ∷ p) x h =
      let ih = beside_left u p x in
      step_left a b _ _ (λ e. ih (λ w r f. h w r (λ i. e i ∷ f i)))

  nil_right : (u : List Step) (x : Name) → path_before before [] (u ++ right x ∷ end ∷ []) ≡ not (path_before before (u ++ end ∷ []) [])
  nil_right [] x = refl
  nil_right (b ∷ u) x = refl

  -- beside a step to the right
  pub beside_right : (u p : List Step) (x : Name) → Ended p → ((w : Name) (r : List Step) → p ≡ u ++ right w ∷ r → ⊥)
      → path_before before p (u ++ right x ∷ end ∷ []) ≡ not (path_before before (u ++ end ∷ []) p)
  beside_right [] [] x d h = absurd d
  beside_right (b ∷ u) [] x d h = absurd d
  beside_right [] (left a ∷ p) x d h = refl
  beside_right [] (end ∷ p) x d h = rw d
  beside_right [] (right a ∷ p) x d h = absurd (h a p refl)
  beside_right (b ∷ u) (left a ∷ p) x d h =
      let ih = beside_right u p x d in step_right (left a) b _ _ (λ e. ih (λ w r f. h w r (λ i. e i ∷ f i)))
  beside_right (b ∷ u) (end ∷ p) x d h = step_right end b _ _ (λ e. rw d (nil_right u x))
  beside_right (b ∷ u) (right a ∷ p) x d h =
      let ih = beside_right u p x d in step_right (right a) b _ _ (λ e. ih (λ w r f. h w r (λ i. e i ∷ f i)))
