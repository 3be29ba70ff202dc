-- The index beside the true tree: at the start, at each new event, and at a checkpoint.
use Rattle.std.proofs.Common.{◌≡◌, ℕ, ◌+◌, ◌≤◌, Bool, true, false, not, ◌&&◌, List, [], ◌∷◌, ◌++◌, length, filter, sym, refl, ap, ◌∙◌, subst, ap₂, subst₂, inl, inr, append_assoc, append-nil, arith, length-append}
use Rattle.std.specs.List.{AllByRecursion}
use Rattle.std.proofs.lemmas.Bool.{both_ways, cases_Bool, or_from, or_left, and_parts, and_from}
use Rattle.std.proofs.ByRecursion.{All-weaker}
use Rattle.std.proofs.lemmas.Bool.{false_from_ne_true}
use Rattle.events.specs.declared.name.Name.{Name}
use Rattle.events.specs.declared.character.Character.{Character}
use Rattle.fugue.proofs.Grown.{inside}
use Rattle.fugue.specs.Names.{Ordered, ◌∈◌, Rising}
use Rattle.fugue.specs.Paths.{path, path_before}
use Rattle.fugue.specs.Placements.{after, attached_by}
use Rattle.fugue.specs.Tree.{sorted, Attachment, root, left_of, right_of, Node, Tree, children, sequence, AttachedTo, only, ClosedPart, has_node, Grown, Children}
use Rattle.fugue.proofs.Beside.{up_to_after, after_append}
use Rattle.fugue.proofs.Leaf.{leaf}
use Rattle.fugue.proofs.Lists.{all_member, all_members, kept_member, member_kept, rises_kept, all_both}
use Rattle.fugue.proofs.Names.{same_own, same_not}
use Rattle.fugue.proofs.Paths.{tree_has}
use Rattle.walk_theory.specs.Origins.{Origin, behind, front, new_node}
use Rattle.walk_theory.specs.Bases.{attached_over, grown_over, OnLater, LaterNodes, node_names, Agrees}
use Rattle.walk_theory.specs.Agreement.{GrewAlike}
use Rattle.walk_theory.specs.Standing.{Stands, in_chain, chain_tree, StepStands}
use Rattle.walk_theory.proofs.Gaps.{at_gap}
use Rattle.walk_theory.proofs.Search.{apart, origin_like, finds}
use Rattle.walk_theory.proofs.Bases.{names_in, names_from, alike_from, g_t, gt, twins}
use Rattle.walk_theory.proofs.Agreement.{closed_small, grows}

-- a sequence is as long as its tree
parts : {X : Type 0} (p : X → Bool) (l : List X) → length (filter p l) + length (filter (λ x. not (p x)) l) ≡ length l
parts p [] = refl
parts p (x ∷ l) = let ih = parts p l in elim (cases_Bool (p x)) [ inl e ↦ rw e (omega arith) | inr e ↦ rw e (omega arith) ]

empty_sequence : (before : Name → Name → Bool) → sequence before [] ≡ []
unfolding sequence children sorted
empty_sequence before = refl

empty_kids : (before : Name → Name → Bool) (q : Attachment) → children before [] q ≡ []
unfolding children sorted
empty_kids before q = refl

pub long_as : (before : Name → Name → Bool) → Ordered before → (t : Tree) → Grown t → length (sequence before t) ≡ length t
long_as before o [] g = ap length (empty_sequence before)
long_as before o (e ∷ t) g =
    let ih = long_as before o t g.2 in
    let p = parts (λ n. path_before before (path (e ∷ t) n.name) (path (e ∷ t) e.name)) (sequence before t) in
    ap length (leaf before o e t g) ∙ simp length-append (omega arith)

-- with nothing closed off
attached_none : (before : Name → Name → Bool) (q : Attachment) → attached_over before [] q ≡ q
attached_none before root = ap (λ ks. attached_by ks (sequence before []) root) (empty_kids before root)
attached_none before (left_of z) = refl
attached_none before (right_of z) = refl

over_none : (before : Name → Name → Bool) (t : Tree) → t ≡ grown_over before [] t
over_none before [] = refl
over_none before (n ∷ t) = ap₂ ◌∷◌ (λ i. record { name = n.name; attachment = sym (attached_none before n.attachment) i; character = n.character }) (over_none before t)

laid_none : (t : Tree) → Grown t → LaterNodes (has_node []) (has_node []) t
laid_none [] g = tt
laid_none (n ∷ t) g = (refl, g.0, attachment_in n.attachment g.1, laid_none t g.2)
  where
    attachment_in : (q : Attachment) → AttachedTo (has_node t) q → OnLater (has_node []) (has_node t) q
    attachment_in root h = tt
    attachment_in (left_of z) h = h
    attachment_in (right_of z) h = inr h

pub opens : (before : Name → Name → Bool) → Ordered before → (t : Tree) → Grown t → Stands before [] [] t t (sequence before t)
opens before o t g = record {
  old = tt;
  kept = tt;
  agree = record { within = λ y h. h; order = ap node_names (empty_sequence before ∙ sym (ap (only (has_node [])) (empty_sequence before))) };
  laid = laid_none t g;
  is_whole = over_none before t;
  is_listed = ap (sequence before) (over_none before t);
}

-- a chain
module _ (before : Name → Name → Bool) (o : Ordered before) where
  abbrev link : Node → Attachment → Node
  link n q = record { name = n.name; attachment = q; character = n.character }

  pub record Chained (t : Tree) (q : Attachment) (l : List Node) : Type 0 where
    pub grown : Grown (chain_tree t q l)
    pub is : sequence before (chain_tree t q l) ≡ sequence before t ++ in_chain q l

  not_in_s : (t : Tree) → Grown t → (x : Name) → has_node t x ≡ false → has_node (sequence before t) x ≡ false
  not_in_s t g x f = false_from_ne_true (has_node (sequence before t) x) (λ h. both_ways _ f (tree_has before o t g x h))

  chain : (l : List Node) (t : Tree) → Grown t → (q : Attachment) → Origin (has_node t) q → Children before t q [] → front q (sequence before t) ≡ sequence before t → behind q (sequence before t) ≡ []
      → AllByRecursion (λ n. has_node t n.name ≡ false) l → Rising (λ m n. m.name ≡ n.name → ⊥) l → Chained t q l
  chain [] t g q h k ef eb a r = record { grown = g; is = sym (append-nil (sequence before t)) }
  chain (n ∷ l) t g q h k ef eb a r =
      let s = sequence before t in
      let e = link n q in
      let held = as_root q h in
      let s' : sequence before (e ∷ t) ≡ s ++ e ∷ [] = at_gap before o t g n.name n.character a.0 q h k ∙ ap₂ (λ x y. x ++ e ∷ y) ef eb in
      let fresh = not_in_s t g n.name a.0 in
      let p : after n.name (s ++ e ∷ []) ≡ [] = after_append before o t n.name s (e ∷ []) ∙ rw (fresh, same_own n.name) in
      let u : front (right_of n.name) (s ++ e ∷ []) ≡ s ++ e ∷ []
      = sym (up_to_after n.name (s ++ e ∷ []) ∙ ap (λ z. front (right_of n.name) (s ++ e ∷ []) ++ z) p ∙ append-nil (front (right_of n.name) (s ++ e ∷ []))) in
      let c = chain l (e ∷ t) (a.0, held, g) (right_of n.name) (or_left _ _ (same_own n.name)) (bare held)
      (subst (λ z. front (right_of n.name) z ≡ z) (sym s') u) (subst (λ z. after n.name z ≡ []) (sym s') p)
      (All-weaker _ _ (λ m z. or_from _ _ (same_not n.name m.name z.0) z.1) l (all_both _ _ l r.0 a.1)) r.1 in
      record { grown = c.grown; is = c.is ∙ ap (λ z. z ++ in_chain (right_of n.name) l) s' ∙ append_assoc s (e ∷ []) (in_chain (right_of n.name) l) }
    where
      as_root : (q : Attachment) → Origin (has_node t) q → AttachedTo (has_node t) q
      as_root root h = tt
      as_root (left_of y) h = elim h [ ]
      as_root (right_of y) h = h

      bare : AttachedTo (has_node t) q → Children before (link n q ∷ t) (right_of n.name) []
      bare held = record {
        are = λ m. (
          (λ i. elim i [ ]),
          (λ i. elim i.0 [
            | inl f ↦ both_ways _ a.0 (subst (AttachedTo (has_node t)) (sym (ap (λ j. j.attachment) f) ∙ i.1) held)
            | inr j ↦ both_ways _ a.0 (subst (AttachedTo (has_node t)) i.1 (all_member _ t m (inside t g) j).1)
          ]),
        );
        rise = tt;
      }

  names_linked : (q : Attachment) (l : List Node) → node_names (in_chain q l) ≡ node_names l
  names_linked q [] = refl
  names_linked q (n ∷ l) = ap (λ z. n.name ∷ z) (names_linked (right_of n.name) l)

  no_kids : Children before [] root []
  no_kids = record { are = λ n. ((λ i. elim i [ ]), (λ i. elim i.0 [ ])); rise = tt }

-- a new event
module _ (before : Name → Name → Bool) (o : Ordered before) (big small : Tree) (later : List Node) where
  pub lists : (whole : Tree) (listed : List Node) → Stands before big small later whole listed
      → (Grown whole) × (node_names listed ≡ node_names (only (λ y. has_node (grown_over before small later) y) (sequence before whole)))
  lists whole listed st =
      let a = twins before o big small st.old st.kept st.agree later st.laid in
      let b = alike_from before o big small st.old st.kept st.agree in (
        subst Grown (sym st.is_whole) (g_t before o big small st.old st.kept st.agree.within b later st.laid),
        ap node_names st.is_listed ∙ a.order ∙ ap (λ z. node_names (only (has_node (grown_over before small later)) (sequence before z))) (sym st.is_whole),
      )

  module _ (d : ℕ) (v : Name → Bool) (p : Attachment) (x : Name) (c : Character) (all : (y : Name) → has_node big y ≡ true → v y ≡ true) where
    abbrev Goes : Tree → List Node → Type 0
    Goes whole listed = length listed ≤ d → ClosedPart v whole → Origin (λ y. has_node listed y && v y) p → has_node whole x ≡ false → StepStands before big small later whole listed d v p x c

    core : (gb : Grown big) (gs : Grown small) (ag : Agrees before big small) (l : LaterNodes (has_node big) (has_node small) later) → Goes (grown_over before big later) (sequence before (grown_over before small later))
    core gb gs ag l deep cl q fx =
        let t = grown_over before small later in
        let b = alike_from before o big small gb gs ag in
        let g : Grown t = gt before o big small gb gs ag.within b later l in
        let q' : Origin (λ y. has_node t y && v y) p = origin_like _ _ (λ y h. let k = and_parts (has_node (sequence before t) y) (v y) h in and_from _ _ (tree_has before o t g y k.0) k.1) p q in
        let gr = grows before o big small gb gs ag v all later l cl p q' x c fx in
        let fd = finds before o t g v (closed_small before o big small gb gs ag v all later l cl) p q' x (not_in_small t g gr) d (omega (arith, long_as before o t g)) c in
        record {
          at = gr.at;
          stands = record {
            old = gb;
            kept = gs;
            agree = ag;
            laid = gr.laid;
            is_whole = gr.in_big;
            is_listed = sym fd.in_place ∙ ap (sequence before) (ap (λ z. new_node x z c ∷ t) fd.at_home ∙ gr.in_small);
          };
        }
      where
        not_in_small : (t : Tree) → Grown t → GrewAlike before big small later v p x c → has_node (grown_over before small later) x ≡ false
        not_in_small t g gr = false_from_ne_true (has_node (grown_over before small later) x) (λ h. both_ways _ fx ((twins before o big small gb gs ag later l).within x h))

    pub walks : (whole : Tree) (listed : List Node) → Stands before big small later whole listed → Goes whole listed
    walks whole listed st = subst₂ Goes (sym st.is_whole) (sym st.is_listed) (core st.old st.kept st.agree st.laid)

-- a checkpoint
pub names_only : (p : Name → Bool) (l : List Node) → node_names (only p l) ≡ filter p (node_names l)
names_only p [] = refl
names_only p (n ∷ l) = let ih = names_only p l in elim (cases_Bool (p n.name)) [ inl e ↦ rw e (ap (λ z. n.name ∷ z) ih) | inr e ↦ rw e ih ]

pub kept_both : (p q r : Name → Bool) (l : List Name) → AllByRecursion (λ y. r y ≡ (p y && q y)) l → filter p (filter q l) ≡ filter r l
kept_both p q r [] a = refl
kept_both p q r (y ∷ l) a = let ih = kept_both p q r l a.1 in let e = a.0 in grind (arith, ih, e)

module _ (before : Name → Name → Bool) (o : Ordered before) (big small : Tree) (later : List Node) (whole : Tree) (listed : List Node) (st : Stands before big small later whole listed) where
  abbrev t : Tree
  t = grown_over before small later

  grown_whole : Grown whole
  grown_whole = (lists before o big small later whole listed st).0

  listed_names : node_names listed ≡ filter (has_node t) (node_names (sequence before whole))
  listed_names = (lists before o big small later whole listed st).1 ∙ names_only (has_node t) (sequence before whole)

  grown_t : Grown t
  grown_t = gt before o big small st.old st.kept st.agree.within (alike_from before o big small st.old st.kept st.agree) later st.laid

  pub within_whole : (y : Name) → has_node t y ≡ true → has_node whole y ≡ true
  within_whole y h = subst (λ z. has_node z y ≡ true) (sym st.is_whole) ((twins before o big small st.old st.kept st.agree later st.laid).within y h)

  -- what is listed, by node_names
  pub listed_in : (y : Name) → has_node t y ≡ true → y ∈ node_names listed
  listed_in y h = rw st.is_listed (names_in before o t grown_t y h)

  pub listed_from : (y : Name) → y ∈ node_names listed → has_node t y ≡ true
  listed_from y i = names_from before o t grown_t y (rw st.is_listed at i)

  pub apart_listed : Rising (λ m n. m.name ≡ n.name → ⊥) listed
  apart_listed = rw st.is_listed (apart before o t grown_t)

  module _ (keep : Name → Bool) where
    abbrev l : List Node
    l = only keep listed

    abbrev fresh_small : Tree
    fresh_small = chain_tree [] root l

    made : Chained before o [] root l
    made =
        chain before o l [] tt root tt (no_kids before o) (sym (empty_sequence before)) (empty_sequence before) (all_members _ l (λ n i. refl))
        (rises_kept _ _ listed (rw st.is_listed (apart before o t grown_t)))

    made_is : sequence before fresh_small ≡ in_chain root l
    made_is = made.is ∙ ap (λ z. z ++ in_chain root l) (empty_sequence before)

    small_names : node_names (sequence before fresh_small) ≡ filter keep (node_names listed)
    small_names = ap node_names made_is ∙ names_linked before o root l ∙ names_only keep listed

    in_small : (y : Name) → has_node fresh_small y ≡ true → (has_node t y ≡ true) × (keep y ≡ true)
    in_small y h =
        let i : y ∈ filter keep (node_names listed) = rw small_names at (names_in before o fresh_small made.grown y h) in
        let k = member_kept keep (node_names listed) y i in
        (listed_from y k.0, k.1)

    from_small : (y : Name) → has_node t y ≡ true → keep y ≡ true → has_node fresh_small y ≡ true
    from_small y h k = names_from before o fresh_small made.grown y (rw small_names (kept_member keep (node_names listed) y k (listed_in y h)))

    same_kept : (y : Name) → has_node fresh_small y ≡ (keep y && has_node t y)
    same_kept y = elim (cases_Bool (has_node fresh_small y)) [
      | inl e ↦ let k = in_small y e in e ∙ sym (and_from (keep y) (has_node t y) k.1 k.0)
      | inr e ↦ elim (cases_Bool (keep y && has_node t y)) [
        | inl f ↦ let k = and_parts (keep y) (has_node t y) f in absurd (both_ways _ e (from_small y k.1 k.0))
        | inr f ↦ e ∙ sym f
      ]
    ]

    pub checks : Stands before whole fresh_small [] whole (in_chain root l)
    checks = record {
      old = grown_whole;
      kept = made.grown;
      agree = record {
        within = λ y h. within_whole y (in_small y h).0;
        order =
            small_names ∙ ap (filter keep) listed_names
            ∙ kept_both keep (has_node t) (has_node fresh_small) (node_names (sequence before whole)) (all_members _ _ (λ y i. same_kept y))
            ∙ sym (names_only (has_node fresh_small) (sequence before whole));
      };
      laid = tt;
      is_whole = refl;
      is_listed = sym made_is;
    }
