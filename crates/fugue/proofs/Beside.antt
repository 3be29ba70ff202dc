-- A new node comes into its parents' sequence right after its left origin.
use Rattle.std.proofs.Common.{◌≡◌, ℕ, Bool, true, false, cond, ◌||◌, List, [], ◌∷◌, ◌++◌, sym, refl, ap, ◌∙◌, subst, ap₂, inl, inr, append_assoc, append-nil, arith}
use Rattle.std.specs.List.{flat_map, AllByRecursion}
use Rattle.std.proofs.lemmas.Bool.{both_ways, cases_Bool}
use Rattle.std.proofs.lemmas.Grind.{flat_map-append}
use Rattle.events.specs.declared.name.Name.{Name}
use Rattle.events.specs.declared.character.Character.{Character}
use Rattle.fugue.specs.Names.{◌∈◌, same, Ordered}
use Rattle.fugue.specs.Tree.{Attachment, root, left_of, right_of, same_attachment, Node, Tree, children, sequence, AttachedTo, Grown, Children, InSequence, none, next, SequenceOf}
use Rattle.fugue.specs.Placements.{LeftOrigin, start, node, right_end_of, after, following, attached_by, attachment_after}
use Rattle.fugue.specs.Edits.{in_front_of}
use Rattle.fugue.proofs.Names.{same_name, same_own, same_not, attachment_is, attachment_refl}
use Rattle.fugue.proofs.Lists.{all_member, in_right}
use Rattle.fugue.proofs.Sorted.{Apart}
use Rattle.fugue.proofs.Grown.{has_node_append, has_node, node_in, inside}
use Rattle.fugue.proofs.Sequences.{children_are, children_unique, one_sequence, sequence_right, sequence_only}
use Rattle.fugue.proofs.Paths.{sequence_has, members, sequence_apart}
use Rattle.fugue.proofs.Placed.{Origin}

-- the nodes of a sequence up to one, and up to a left origin
abbrev pub up_to_name : Name → List Node → List Node
up_to_name x [] = []
up_to_name x (n ∷ ns) = cond (same n.name x) (n ∷ []) (n ∷ up_to_name x ns)

abbrev pub up_to : LeftOrigin → List Node → List Node
up_to start s = []
up_to (node x) s = up_to_name x s

-- e, if it is attached there
abbrev here : Node → Attachment → List Node
here e q = cond (same_attachment e.attachment q) (e ∷ []) []

-- a node, with e on the side on which it is attached to it
abbrev with_new : Node → Node → List Node
with_new e n = here e (left_of n.name) ++ n ∷ here e (right_of n.name)

-- e is attached where nothing else is
module _ (before : Name → Name → Bool) (o : Ordered before) (e : Node) (t : Tree) (g : Grown (e ∷ t)) (free : Children before t e.attachment []) where
  children_else : (q : Attachment) (ns : List Node) → Children before t q ns → (e.attachment ≡ q → ⊥) → Children before (e ∷ t) q ns
  children_else q ns k h = record {
    are = λ n. (
      (λ i. let r = (k.are n).0 i in (inr r.0, r.1)),
      (λ i. elim i.0 [ inl f ↦ absurd (h (sym (ap (λ m. m.attachment) f) ∙ i.1)) | inr j ↦ (k.are n).1 (j, i.1) ]),
    );
    rise = k.rise;
  }

  children_here : Children before (e ∷ t) e.attachment (e ∷ [])
  children_here = record {
    are = λ n. (
      (λ i. elim i [ inl f ↦ (inl f, ap (λ m. m.attachment) f) | inr j ↦ elim j [ ] ]),
      (λ i. elim i.0 [ inl f ↦ inl f | inr j ↦ elim ((free.are n).1 (j, i.1)) [ ] ]),
    );
    rise = (tt, tt);
  }

  -- e has no children
  childless : (q : Attachment) → (AttachedTo (has_node t) q → ⊥) → Children before (e ∷ t) q []
  childless q h = record {
    are = λ n. (
      (λ i. elim i [ ]),
      (λ i. elim i.0 [
        | inl f ↦ h (subst (AttachedTo (has_node t)) (sym (ap (λ m. m.attachment) f) ∙ i.1) g.1)
        | inr j ↦ h (subst (AttachedTo (has_node t)) i.1 (all_member _ t n (inside t g.2) j).1)
      ]),
    );
    rise = tt;
  }

  alone : InSequence before (e ∷ t) (e ∷ []) (e ∷ [])
  alone = next (childless (left_of e.name) (both_ways _ g.0)) none (childless (right_of e.name) (both_ways _ g.0)) none none

  -- the children at q and their sequence, with e
  module _ (q : Attachment) (ns l : List Node) (k : Children before t q ns) (v : InSequence before t ns l) (u : InSequence before (e ∷ t) ns (flat_map (with_new e) l)) where
    record Side : Type 0 where
      tops : List Node
      s : List Node
      children : Children before (e ∷ t) q tops
      sequence : InSequence before (e ∷ t) tops s
      first : s ≡ here e q ++ flat_map (with_new e) l
      last : s ≡ flat_map (with_new e) l ++ here e q

    side : Side
    side = elim (cases_Bool (same_attachment e.attachment q)) [
      | inl h ↦
          let f = attachment_is e.attachment q h in
          let z : ns ≡ [] = children_unique before o t q ns [] k (subst (λ w. Children before t w []) f free) in
          let y : l ≡ [] = one_sequence before o t (rw z at v) none in
          record {
            tops = e ∷ [];
            s = e ∷ [];
            children = subst (λ w. Children before (e ∷ t) w (e ∷ [])) f children_here;
            sequence = alone;
            first = rw (h, y);
            last = rw (h, y);
          }
      | inr h ↦
          record {
            tops = ns;
            s = flat_map (with_new e) l;
            children = children_else q ns k (λ f. both_ways _ h (rw f (attachment_refl q)));
            sequence = u;
            first = rw h;
            last = rw h (sym (append-nil (flat_map (with_new e) l)));
          }
    ]

  regroup : (n : Node) (l r s hl hr a b : List Node) → with_new e n ≡ hl ++ n ∷ hr → a ≡ flat_map (with_new e) l ++ hl → b ≡ hr ++ flat_map (with_new e) r
      → flat_map (with_new e) ((l ++ n ∷ r) ++ s) ≡ (a ++ n ∷ b) ++ flat_map (with_new e) s
  regroup n l r s hl hr a b h f k =
      flat_map-append (with_new e) (l ++ n ∷ r) s
      ∙ ap (λ z. z ++ flat_map (with_new e) s) (flat_map-append (with_new e) l (n ∷ r) ∙ rw (h, f, k) (simp append_assoc))

  with_new_lem : {ns s : List Node} → InSequence before t ns s → InSequence before (e ∷ t) ns (flat_map (with_new e) s)
  with_new_lem none = none
  with_new_lem (next {n = n} {ns = ns} {ls = ls} {rs = rs} {s = s} {l = l} {r = r} kl vl kr vr vs) =
      let a = side (left_of n.name) ls l kl vl (with_new_lem vl) in
      let b = side (right_of n.name) rs r kr vr (with_new_lem vr) in
      subst (λ z. InSequence before (e ∷ t) (n ∷ ns) z) (sym (regroup n l r s _ _ a.s b.s refl a.last b.first))
      (next {n = n} a.children a.sequence b.children b.sequence (with_new_lem vs))

  sequence_new : sequence before (e ∷ t) ≡ here e root ++ flat_map (with_new e) (sequence before t)
  sequence_new =
      let q = sequence_right before o t g.2 in
      let a = side root q.tops (sequence before t) q.children q.in_sequence (with_new_lem q.in_sequence) in
      sequence_only before o (e ∷ t) _ _ (sequence_right before o (e ∷ t) g)
      (record { tops = a.tops; children = a.children; in_sequence = a.sequence }) ∙ a.first

-- the first node of a sequence has no left child
module _ (before : Name → Name → Bool) (o : Ordered before) (t : Tree) where
  abbrev pub Starts : List Node → Type 0
  Starts s = (f : Node) × (fs : List Node) × (s ≡ f ∷ fs) × Children before t (left_of f.name) []

  starts_longer : (s r : List Node) → Starts s → Starts (s ++ r)
  starts_longer s r a = (a.0, a.1 ++ r, ap (λ z. z ++ r) a.2, a.3)

  pub starts : {ns s : List Node} → InSequence before t ns s → (k : Node) → k ∈ ns → Starts s
  starts none k i = elim i [ ]
  starts (next {n = n} {ls = []} {s = s} {l = l} {r = r} kl vl kr vr vs) k i =
      starts_longer (l ++ n ∷ r) s (n, r, ap (λ z. z ++ n ∷ r) (one_sequence before o t vl none), kl)
  starts (next {n = n} {ls = m ∷ ls} {s = s} {l = l} {r = r} kl vl kr vr vs) k i =
      starts_longer (l ++ n ∷ r) s (starts_longer l (n ∷ r) (starts vl m (inl refl)))

  pub after_append : (x : Name) (a b : List Node) → after x (a ++ b) ≡ cond (has_node a x) (after x a ++ b) (after x b)
  after_append x [] b = refl
  after_append x (n ∷ a) b = let ih = after_append x a b in grind arith

  -- what holds of some nodes holds of more: so it holds of what follows x, by the place of x
  module _ (S : List Node → Type 0) (more : (s r : List Node) → S s → S (s ++ r)) (x : Name) (n : Node) (l r s : List Node) (il : has_node l x ≡ true → S (after x l))
      (own : same n.name x ≡ true → S r) (ir : has_node r x ≡ true → S (after x r)) (is : has_node s x ≡ true → S (after x s)) where
    by_place : (a b c : Bool) → has_node l x ≡ a → same n.name x ≡ b → has_node r x ≡ c → (a || (b || c) || has_node s x) ≡ true
        → S (cond (a || (b || c)) (cond a (after x l ++ n ∷ r) (cond b r (after x r)) ++ s) (after x s))
    by_place true b c qa qb qc h = more _ s (more (after x l) (n ∷ r) (il qa))
    by_place false true c qa qb qc h = more r s (own qb)
    by_place false false true qa qb qc h = more (after x r) s (ir qc)
    by_place false false false qa qb qc h = is h

    pub holds_after : has_node ((l ++ n ∷ r) ++ s) x ≡ true → S (after x ((l ++ n ∷ r) ++ s))
    holds_after h =
        rw (after_append x (l ++ n ∷ r) s, after_append x l (n ∷ r), has_node_append l (n ∷ r) x)
        (by_place (has_node l x) (same n.name x) (has_node r x) refl refl refl
        (sym (has_node_append (l ++ n ∷ r) s x ∙ ap (λ b. b || has_node s x) (has_node_append l (n ∷ r) x)) ∙ h))

  -- what follows a node that has a right child has no left child
  pub after_right : {ns s : List Node} → InSequence before t ns s → (x : Name) → has_node s x ≡ true → (k : Node) → k ∈ t → k.attachment ≡ right_of x → Starts (after x s)
  after_right none x h k i e = absurd (both_ways false refl h)
  after_right (next {n = n} {s = s} {l = l} {r = r} kl vl kr vr vs) x h k i e =
      holds_after Starts starts_longer x n l r s (λ q. after_right vl x q k i e) (λ q. starts vr k ((kr.are k).1 (i, e ∙ ap right_of (sym (same_name n.name x q)))))
      (λ q. after_right vr x q k i e) (λ q. after_right vs x q k i e) h

pub up_to_after : (x : Name) (s : List Node) → s ≡ up_to_name x s ++ after x s
up_to_after x [] = refl
up_to_after x (n ∷ s) = let ih = up_to_after x s in elim (cases_Bool (same n.name x)) [ inl q ↦ rw q | inr q ↦ rw q (ap (λ z. n ∷ z) ih) ]

pub up_to_following : (o : LeftOrigin) (s : List Node) → s ≡ up_to o s ++ following o s
up_to_following start s = refl
up_to_following (node x) s = up_to_after x s

-- a sequence cut at the node of a name
pub record Cut (x : Name) (s : List Node) : Type 0 where
  pub at : Node
  pub is : s ≡ in_front_of x s ++ at ∷ after x s
  pub front : up_to_name x s ≡ in_front_of x s ++ at ∷ []
  pub name : at.name ≡ x
  pub member : at ∈ s

cut_more : (x : Name) (n : Node) (s : List Node) → same n.name x ≡ false → Cut x s → Cut x (n ∷ s)
cut_more x n s q c =
    record { at = c.at; is = rw q (ap (λ z. n ∷ z) c.is); front = rw q (ap (λ z. n ∷ z) c.front); name = c.name; member = inr c.member }

pub cut : (x : Name) (s : List Node) → has_node s x ≡ true → Cut x s
cut x [] h = absurd (both_ways false refl h)
cut x (n ∷ s) h = elim (cases_Bool (same n.name x)) [
  | inl q ↦ record { at = n; is = rw q; front = rw q; name = same_name n.name x q; member = inl refl }
  | inr q ↦ cut_more x n s q (cut x s (rw q at h))
]

-- where only one node of a list is given more than itself
joined_beside : (f : Node → List Node) (us : List Node) (n : Node) (bs : List Node) → ((m : Node) → (m.name ≡ n.name → ⊥) → f m ≡ m ∷ [])
    → Apart (us ++ n ∷ bs) → flat_map f (us ++ n ∷ bs) ≡ us ++ (f n ++ bs)
joined_beside f [] n bs others a = ap (λ z. f n ++ z) (plain bs a.0)
  where
    plain : (bs : List Node) → AllByRecursion (λ m. n.name ≡ m.name → ⊥) bs → flat_map f bs ≡ bs
    plain [] a = refl
    plain (m ∷ bs) a = rw (others m (λ q. a.0 (sym q))) (ap (λ z. m ∷ z) (plain bs a.1))
joined_beside f (u ∷ us) n bs others a =
    rw (others u (all_member _ (us ++ n ∷ bs) n a.0 (in_right us (n ∷ bs) n (inl refl)))) (ap (λ z. u ∷ z) (joined_beside f us n bs others a.1))

module _ (before : Name → Name → Bool) (o : Ordered before) (t : Tree) (g : Grown t) (x : Name) (c : Character) (f : has_node t x ≡ false) where
  abbrev pub s : List Node
  s = sequence before t

  abbrev pub new_node : Attachment → Node
  new_node q = record { name = x; character = c; attachment = q }

  at_free : (q : Attachment) → AttachedTo (has_node t) q → Children before t q [] → sequence before (new_node q ∷ t) ≡ here (new_node q) root ++ flat_map (with_new (new_node q)) s
  at_free q r k = sequence_new before o (new_node q) t (f, r, g) k

  seq : SequenceOf before t s
  seq = sequence_right before o t g

  pub at_root : Children before t root [] → sequence before (new_node root ∷ t) ≡ new_node root ∷ s
  at_root k =
      let z = children_unique before o t root _ _ seq.children k in
      let y : s ≡ [] = one_sequence before o t (rw z at seq.in_sequence) none in
      at_free root tt k ∙ rw y

  beside_node : (q : Attachment) → AttachedTo (has_node t) q → Children before t q [] → here (new_node q) root ≡ [] → (us : List Node) (n : Node) (bs w : List Node) → s ≡ us ++ n ∷ bs
      → ((m : Node) → (m.name ≡ n.name → ⊥) → with_new (new_node q) m ≡ m ∷ []) → with_new (new_node q) n ≡ w → sequence before (new_node q ∷ t) ≡ us ++ (w ++ bs)
  beside_node q r k h us n bs w e others own =
      at_free q r k ∙ ap₂ (λ y z. y ++ flat_map (with_new (new_node q)) z) h e
      ∙ joined_beside (with_new (new_node q)) us n bs others (rw e at (sequence_apart before o t g)) ∙ ap (λ z. us ++ (z ++ bs)) own

  pub at_right : (y : Name) → has_node t y ≡ true → Children before t (right_of y) [] → sequence before (new_node (right_of y) ∷ t) ≡ up_to_name y s ++ new_node (right_of y) ∷ after y s
  at_right y h k =
      let r = cut y s (sequence_has before o t g y h) in
      beside_node (right_of y) h k refl (in_front_of y s) r.at (after y s) (r.at ∷ new_node (right_of y) ∷ []) r.is
      (λ m d. rw (same_not y m.name (λ q. d (sym q ∙ sym r.name)))) (rw (r.name, same_own y))
      ∙ sym (ap (λ z. z ++ new_node (right_of y) ∷ after y s) r.front ∙ append_assoc (in_front_of y s) (r.at ∷ []) (new_node (right_of y) ∷ after y s))

  left_of_follower : (us : List Node) (n : Node) (bs : List Node) → has_node t n.name ≡ true → s ≡ us ++ n ∷ bs → Children before t (left_of n.name) []
      → sequence before (new_node (left_of n.name) ∷ t) ≡ us ++ new_node (left_of n.name) ∷ n ∷ bs
  left_of_follower us n bs h e k =
      beside_node (left_of n.name) h k refl us n bs (new_node (left_of n.name) ∷ n ∷ []) e (λ m d. rw (same_not n.name m.name (λ q. d (sym q)))) (rw (same_own n.name))

  -- a left origin that has a right child is followed by a node without a left child
  pub follower : (p : LeftOrigin) → Origin (has_node t) p → (k : Node) → k ∈ t → k.attachment ≡ right_end_of p → Starts before o t (following p s)
  follower start h k i e = starts before o t seq.in_sequence k ((seq.children.are k).1 (i, e))
  follower (node y) h k i e = after_right before o t seq.in_sequence y (sequence_has before o t g y h) k i e

  pub at_end : (p : LeftOrigin) → Origin (has_node t) p → Children before t (right_end_of p) [] → sequence before (new_node (right_end_of p) ∷ t) ≡ up_to p s ++ new_node (right_end_of p) ∷ following p s
  at_end start h k = at_root k
  at_end (node y) h k = at_right y h k

  in_tree : (n : Node) → n ∈ s → has_node t n.name ≡ true
  in_tree n i = node_in t n ((members before o t g n).0 i)

  attached : (p : LeftOrigin) → Origin (has_node t) p → (ks follow : List Node) → Children before t (right_end_of p) ks → following p s ≡ follow
      → sequence before (new_node (attached_by ks follow (right_end_of p)) ∷ t) ≡ up_to p s ++ new_node (attached_by ks follow (right_end_of p)) ∷ following p s
  attached p h [] follow k e = at_end p h k
  attached p h (j ∷ ks) [] k e =
      let i = (k.are j).0 (inl refl) in let r = follower p h j i.0 i.1 in absurd (let z : ◌≡◌ {A = ℕ} 0 1 = cc (r.2, e) in omega arith)
  attached p h (j ∷ ks) (n ∷ ns) k e =
      let i = (k.are j).0 (inl refl) in
      let r = follower p h j i.0 i.1 in
      let its-first : r.0 ≡ n = cc (r.2, e) in
      let whole : s ≡ up_to p s ++ n ∷ ns = up_to_following p s ∙ ap (λ z. up_to p s ++ z) e in
      left_of_follower (up_to p s) n ns (in_tree n (rw whole (in_right (up_to p s) (n ∷ ns) n (inl refl)))) whole (subst (λ m. Children before t (left_of m.name) []) its-first r.3)
      ∙ sym (ap (λ z. up_to p s ++ new_node (left_of n.name) ∷ z) e)

  pub comes_after : (p : LeftOrigin) → Origin (has_node t) p
      → sequence before (new_node (attachment_after before t p) ∷ t) ≡ up_to p s ++ new_node (attachment_after before t p) ∷ following p s
  unfolding attachment_after
  comes_after p h = attached p h (children before t (right_end_of p)) (following p s) (children_are before o t g (right_end_of p)) refl
