-- What top_follows a left origin that has something on its right climbs to it.
use Rattle.std.proofs.Common.{◌≡◌, Bool, true, false, List, [], ◌∷◌, ◌++◌, sym, refl, ap, ◌∙◌, subst, inl}
use Rattle.std.specs.List.{AllByRecursion}
use Rattle.std.proofs.lemmas.Bool.{both_ways}
use Rattle.events.specs.declared.name.Name.{Name}
use Rattle.fugue.specs.Names.{Ordered, ◌∈◌}
use Rattle.fugue.specs.Placements.{after}
use Rattle.fugue.specs.Tree.{Attachment, left_of, right_of, Node, Tree, has_node, InSequence, none, next}
use Rattle.fugue.proofs.Beside.{holds_after}
use Rattle.fugue.proofs.Lists.{all_members}
use Rattle.fugue.proofs.Names.{same_name}
use Rattle.fugue.proofs.Sequences.{one_sequence}

-- from a place by places on the left to the place q
pub data Climbs (t : Tree) (q : Attachment) : Attachment → Type 0 where
  here : Climbs t q q
  up : (m : Node) → m ∈ t → Climbs t q m.attachment → Climbs t q (left_of m.name)

module _ (before : Name → Name → Bool) (o : Ordered before) (t : Tree) where
  onward : (n : Node) (q r : Attachment) → n ∈ t → n.attachment ≡ q → Climbs t (left_of n.name) r → Climbs t q r
  onward n q r i e here = up n i (subst (λ z. Climbs t q z) (sym e) here)
  onward n q r i e (up m j c) = up m j (onward n q _ i e c)

  abbrev pub Begins : Attachment → List Node → Type 0
  Begins q s = (f : Node) × (fs : List Node) × (s ≡ f ∷ fs) × Climbs t q f.attachment

  begins_append : (q : Attachment) (s r : List Node) → Begins q s → Begins q (s ++ r)
  begins_append q s r a = (a.0, a.1 ++ r, ap (λ z. z ++ r) a.2, a.3)

  pub begins : {ks s : List Node} → InSequence before t ks s → (q : Attachment) → AllByRecursion (λ k. (k ∈ t) × (k.attachment ≡ q)) ks → (k : Node) → k ∈ ks → Begins q s
  begins none q a k i = elim i [ ]
  begins (next {n = n} {ls = []} {s = s} {l = l} {r = r} kl vl kr vr vs) q a k i =
      begins_append q (l ++ n ∷ r) s (n, r, ap (λ z. z ++ n ∷ r) (one_sequence before o t vl none), subst (λ z. Climbs t q z) (sym a.0.1) here)
  begins (next {n = n} {ls = m ∷ ls} {s = s} {l = l} {r = r} kl vl kr vr vs) q a k i =
      let b = begins vl (left_of n.name) (all_members _ (m ∷ ls) (λ j. (kl.are j).0)) m (inl refl) in
      begins_append q (l ++ n ∷ r) s (begins_append q l (n ∷ r) (b.0, b.1, b.2, onward n q _ a.0.0 a.0.1 b.3))

  pub nexts : {ks s : List Node} → InSequence before t ks s → (x : Name) → has_node s x ≡ true → (k : Node) → k ∈ t → k.attachment ≡ right_of x → Begins (right_of x) (after x s)
  nexts none x h k i e = absurd (both_ways false refl h)
  nexts (next {n = n} {rs = rs} {s = s} {l = l} {r = r} kl vl kr vr vs) x h k i e =
      holds_after before o t (Begins (right_of x)) (begins_append (right_of x)) x n l r s (λ q. nexts vl x q k i e)
      (λ q. let f = ap right_of (same_name n.name x q) in begins vr (right_of x) (all_members _ rs (λ j z. let a = (kr.are j).0 z in (a.0, a.1 ∙ f))) k ((kr.are k).1 (i, e ∙ sym f)))
      (λ q. nexts vr x q k i e) (λ q. nexts vs x q k i e) h
