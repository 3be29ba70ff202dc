-- A grown tree has one sequence, the one computed.
use Rattle.std.proofs.Common.{◌≡◌, ℕ, zero, suc, ◌+◌, ◌<◌, ◌≤◌, Bool, true, List, [], ◌∷◌, ◌++◌, length, refl, arith}
use Rattle.std.specs.List.{flat_map, AllByRecursion}
use Rattle.std.proofs.lemmas.Bool.{both_ways}
use Rattle.std.proofs.ByRecursion.{All-weaker, All-append}
use Rattle.events.specs.declared.name.Name.{Name}
use Rattle.fugue.specs.Names.{◌∈◌, Ordered}
use Rattle.fugue.proofs.Lists.{Alike, all_member, all_members, kept_member, rises_kept, members_decide}
use Rattle.fugue.specs.Tree.{Attachment, root, left_of, right_of, Node, Tree, children, sequence_from, sequence, Grown, Children, InSequence, none, next, SequenceOf}
use Rattle.fugue.proofs.Names.{attachment_refl}
use Rattle.fugue.proofs.Sorted.{in_sorted, sorted_rises}
use Rattle.fugue.proofs.Grown.{Aged, age, aged, all_children, names_apart}

-- a fact about all nodes of a tree is one about its sequence
module _ (before : Name → Name → Bool) (P : Node → Type 0) where
  all_in_joined : (f : Node → List Node) → ((n : Node) → P n → AllByRecursion P (f n)) → (ns : List Node) → AllByRecursion P ns → AllByRecursion P (flat_map f ns)
  all_in_joined f h [] a = tt
  all_in_joined f h (n ∷ ns) a = All-append P (f n) (flat_map f ns) (h n a.0) (all_in_joined f h ns a.1)

  children_all : (t : Tree) (q : Attachment) → AllByRecursion P t → AllByRecursion P (children before t q)
  children_all t q a = All-weaker _ P (λ n u. u.0) _ (all_children before P t q a)

  all_from_node : (t : Tree) → AllByRecursion P t → (d : ℕ) (n : Node) → P n → AllByRecursion P (sequence_from before d t n)
  unfolding sequence_from
  all_from_node t a zero n p = tt
  all_from_node t a (suc d) n p =
      All-append P _ _ (all_in_joined (sequence_from before d t) (all_from_node t a d) _ (children_all t (left_of n.name) a))
      (p, all_in_joined (sequence_from before d t) (all_from_node t a d) _ (children_all t (right_of n.name) a))

  pub all_sequence : (t : Tree) → AllByRecursion P t → AllByRecursion P (sequence before t)
  unfolding sequence
  all_sequence t a = all_in_joined _ (all_from_node t a (length t)) _ (children_all t root a)

module _ (before : Name → Name → Bool) (o : Ordered before) where
  pub children_are : (t : Tree) → Grown t → (q : Attachment) → Children before t q (children before t q)
  unfolding children
  children_are t g q = record {
    are = λ n. (
      all_member _ _ n (all_children before (λ m. m ∈ t) t q (all_members _ t (λ m i. i))),
      λ h. in_sorted before _ n (kept_member _ t n (rw h.1 (attachment_refl q)) h.0),
    );
    rise = sorted_rises before o _ (rises_kept _ _ t (names_apart t g));
  }

  pub children_unique : (t : Tree) (q : Attachment) (ms ns : List Node) → Children before t q ms → Children before t q ns → ms ≡ ns
  children_unique t q ms ns a b =
      members_decide (λ m n. before m.name n.name ≡ true) (λ m. both_ways _ (o.irreflexive m.name)) (λ x y z. o.transitive _ _ _)
      ms ns a.rise b.rise (λ n. ((λ i. (b.are n).1 ((a.are n).0 i)), (λ i. (a.are n).1 ((b.are n).0 i))))

  pub one_sequence : (t : Tree) {ns s r : List Node} → InSequence before t ns s → InSequence before t ns r → s ≡ r
  one_sequence t none none = refl
  one_sequence t (next {n = n} k v m w u) (next k' v' m' w' u') =
      let a = one_sequence t v (rw (children_unique t _ _ _ k' k) at v') in
      let b = one_sequence t w (rw (children_unique t _ _ _ m' m) at w') in
      let c = one_sequence t u u' in
      λ i. (a i ++ n ∷ b i) ++ c i

  module _ (t : Tree) (g : Grown t) (size : ℕ) (r : Name → ℕ) (good : AllByRecursion (Aged size r) t) where
    -- as deep as the nodes below n may lie
    abbrev Deep : ℕ → Node → Type 0
    Deep d n = (r n.name < size) × (size ≤ d + r n.name)

    from_deeper : (d : ℕ) → ((ns : List Node) → AllByRecursion (Deep d) ns → InSequence before t ns (flat_map (sequence_from before d t) ns))
        → (ns : List Node) → AllByRecursion (Deep (suc d)) ns → InSequence before t ns (flat_map (sequence_from before (suc d) t) ns)
    unfolding sequence_from
    from_deeper d ih [] a = none
    from_deeper d ih (n ∷ ns) a =
        next
        (children_are t g (left_of n.name))
        (ih _ (All-weaker _ _ (λ m u. let v : r n.name < r m.name = rw u.1 at u.0.1 in (u.0.0, omega arith)) _
        (all_children before (Aged size r) t (left_of n.name) good)))
        (children_are t g (right_of n.name))
        (ih _ (All-weaker _ _ (λ m u. let v : r n.name < r m.name = rw u.1 at u.0.1 in (u.0.0, omega arith)) _
        (all_children before (Aged size r) t (right_of n.name) good)))
        (from_deeper d ih ns a.1)

    in_sequence_lem : (d : ℕ) (ns : List Node) → AllByRecursion (Deep d) ns → InSequence before t ns (flat_map (sequence_from before d t) ns)
    in_sequence_lem zero [] a = none
    in_sequence_lem zero (n ∷ ns) a = absurd (omega (arith, a.0))
    in_sequence_lem (suc d) ns a = from_deeper d (in_sequence_lem d) ns a

  pub sequence_right : (t : Tree) → Grown t → SequenceOf before t (sequence before t)
  unfolding sequence
  sequence_right t g = record {
    tops = children before t root;
    children = children_are t g root;
    in_sequence =
        in_sequence_lem t g (length t) (age t) (aged t g) (length t) _
        (All-weaker _ _ (λ m u. (u.0.0, omega arith)) _ (all_children before (Aged (length t) (age t)) t root (aged t g)));
  }

  pub sequence_only : (t : Tree) (s r : List Node) → SequenceOf before t s → SequenceOf before t r → s ≡ r
  sequence_only t s r a b = one_sequence t a.in_sequence (rw (children_unique t root _ _ b.children a.children) at b.in_sequence)

  -- trees with the same nodes, in whatever order
  module _ (t u : Tree) (h : Alike t u) where
    children_alike : (q : Attachment) (ns : List Node) → Children before t q ns → Children before u q ns
    children_alike q ns k = record {
      are = λ n. ((λ i. let r = (k.are n).0 i in ((h n).0 r.0, r.1)), (λ i. (k.are n).1 ((h n).1 i.0, i.1)));
      rise = k.rise;
    }

    in_alike : {ns s : List Node} → InSequence before t ns s → InSequence before u ns s
    in_alike none = none
    in_alike (next kl vl kr vr vs) = next (children_alike _ _ kl) (in_alike vl) (children_alike _ _ kr) (in_alike vr) (in_alike vs)

    module _ (g : Grown t) (f : Grown u) where
      pub sequence_alike : sequence before t ≡ sequence before u
      sequence_alike =
          let s = sequence_right t g in
          sequence_only u _ _ (record { tops = s.tops; children = children_alike root _ s.children; in_sequence = in_alike s.in_sequence }) (sequence_right u f)

      pub children_same : (q : Attachment) → children before t q ≡ children before u q
      children_same q = children_unique u q _ _ (children_alike q _ (children_are t g q)) (children_are u f q)
