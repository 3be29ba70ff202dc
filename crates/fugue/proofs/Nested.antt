-- Taking a closed part of a tree takes that part of its sequence.
use Rattle.std.proofs.Common.{◌≡◌, Bool, true, false, ◌⊎◌, List, [], ◌∷◌, ◌++◌, ap, ◌∙◌, inl, inr}
use Rattle.std.proofs.lemmas.Bool.{both_ways, cases_Bool}
use Rattle.std.proofs.lemmas.List.Elements.{filter-append}
use Rattle.std.proofs.lemmas.Bool.{false_from_ne_true}
use Rattle.events.specs.declared.name.Name.{Name}
use Rattle.fugue.specs.Names.{Ordered}
use Rattle.fugue.specs.Tree.{Attachment, root, Node, Tree, sequence, only, AttachedTo, Grown, Children, InSequence, none, next}
use Rattle.fugue.proofs.Lists.{all_member, all_members, kept_member, member_kept, rises_kept, kept_nothing}
use Rattle.fugue.proofs.Grown.{ClosedPart, grown_only}
use Rattle.fugue.proofs.Sequences.{one_sequence, sequence_right, sequence_only}

module _ (before : Name → Name → Bool) (o : Ordered before) (p : Name → Bool) (t : Tree) (c : ClosedPart p t) where
  children_only : (q : Attachment) (ns : List Node) → Children before t q ns → Children before (only p t) q (only p ns)
  children_only q ns k = record {
    are = λ n. (
      (λ i. let r = member_kept (λ m. p m.name) ns n i in let s = (k.are n).0 r.0 in (kept_member _ t n r.1 s.0, s.1)),
      (λ i. let r = member_kept (λ m. p m.name) t n i.0 in kept_member _ ns n r.1 ((k.are n).1 (r.0, i.1))),
    );
    rise = rises_kept _ _ ns k.rise;
  }

  -- nothing of the part is attached outside of it
  no_children : (q : Attachment) (ns : List Node) → Children before t q ns → (AttachedTo p q → ⊥) → only p ns ≡ []
  no_children q ns k h =
      kept_nothing _ ns (all_members _ ns (λ n i. let s = (k.are n).0 i in let r = all_member _ t n c s.0 in
      false_from_ne_true (p n.name) (λ e. h (rw s.1 at (r e)))))

  in_only : {ns s : List Node} → InSequence before t ns s → InSequence before (only p t) (only p ns) (only p s)
  in_only none = none
  in_only (next {n = n} {ns = ns} {ls = ls} {rs = rs} {s = s} {l = l} {r = r} kl vl kr vr vs) =
      go (in_only vl) (in_only vr) (in_only vs) (cases_Bool (p n.name))
    where
      parts : only p ((l ++ n ∷ r) ++ s) ≡ (only p l ++ only p (n ∷ r)) ++ only p s
      parts = filter-append _ (l ++ n ∷ r) s ∙ ap (λ x. x ++ only p s) (filter-append _ l (n ∷ r))

      go : InSequence before (only p t) (only p ls) (only p l) → InSequence before (only p t) (only p rs) (only p r)
          → InSequence before (only p t) (only p ns) (only p s) → (p n.name ≡ true) ⊎ (p n.name ≡ false)
          → InSequence before (only p t) (only p (n ∷ ns)) (only p ((l ++ n ∷ r) ++ s))
      go ul ur us (inl e) = rw (parts, e) (next (children_only _ _ kl) ul (children_only _ _ kr) ur us)
      go ul ur us (inr e) =
          let el = one_sequence before o (only p t) (rw (no_children _ _ kl (both_ways _ e)) at ul) none in
          let er = one_sequence before o (only p t) (rw (no_children _ _ kr (both_ways _ e)) at ur) none in
          rw (parts, e, el, er) us

pub sequence_part : (before : Name → Name → Bool) → Ordered before → (p : Name → Bool) (t : Tree) → Grown t → ClosedPart p t
    → sequence before (only p t) ≡ only p (sequence before t)
sequence_part before o p t g c =
    let s = sequence_right before o t g in
    sequence_only before o (only p t) _ _ (sequence_right before o (only p t) (grown_only p t g c))
    (record { tops = only p s.tops; children = children_only before o p t c root _ s.children; in_sequence = in_only before o p t c s.in_sequence })
