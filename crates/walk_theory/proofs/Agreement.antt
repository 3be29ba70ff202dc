-- A new event in two trees that grow alike.
use Rattle.std.proofs.Common.{◌≡◌, Bool, true, false, ◌&&◌, List, [], ◌∷◌, sym, ap, ◌∙◌, subst₂, inl, inr}
use Rattle.std.proofs.lemmas.Bool.{both_ways, and_parts}
use Rattle.std.proofs.ByRecursion.{All-weaker}
use Rattle.std.proofs.lemmas.Bool.{false_from_ne_true}
use Rattle.events.specs.declared.name.Name.{Name}
use Rattle.events.specs.declared.character.Character.{Character}
use Rattle.fugue.proofs.Grown.{inside}
use Rattle.fugue.specs.Names.{Ordered}
use Rattle.fugue.specs.Paths.{path, path_before}
use Rattle.fugue.specs.Tree.{Attachment, root, left_of, right_of, Node, Tree, AttachedTo, only, ClosedPart, has_node, Grown}
use Rattle.fugue.proofs.Grown.{attached_like, has_only}
use Rattle.walk_theory.specs.Origins.{Origin, new_node}
use Rattle.walk_theory.specs.Tops.{beside_owner}
use Rattle.walk_theory.specs.Bases.{home_in, attached_over, grown_over, OnLater, LaterNodes, Agrees}
use Rattle.walk_theory.specs.Agreement.{OneHome, GrewAlike}
use Rattle.walk_theory.proofs.Search.{origin_like}
use Rattle.walk_theory.proofs.Over.{one_of, home_attached, named_late, named_base, named_cases, late_new, spot_of}
use Rattle.walk_theory.proofs.Bases.{Alike, alike_from, laid_small, g_t, gt, within, beside_alike, alike, twins}
use Rattle.walk_theory.proofs.Homes.{Home, new, old, home}

module _ (before : Name → Name → Bool) (o : Ordered before) (big small : Tree) (gb : Grown big) (gs : Grown small) (ag : Agrees before big small)
    (v : Name → Bool) (all : (y : Name) → has_node big y ≡ true → v y ≡ true) where
  abbrev K : Name → Bool
  K = has_node small

  abbrev w : (y : Name) → K y ≡ true → has_node big y ≡ true
  w = ag.within

  same' : (y : Name) → K y ≡ true → K y ≡ true
  same' y h = h

  base : Alike before o big small gb gs
  base = alike_from before o big small gb gs ag

  all_small : (y : Name) → K y ≡ true → v y ≡ true
  all_small y h = all y (w y h)

  small_at : (later : List Node) → LaterNodes (has_node big) K later → (p : Attachment) → OnLater K (has_node later) p → AttachedTo v (attached_over before big p) → AttachedTo v (attached_over before small p)
  small_at later l root h r = attached_like K v all_small (home_in before small root) (home_attached before o small gs root tt)
  small_at later l (left_of z) h r = r
  small_at later l (right_of z) (inl h) r = rw h (attached_like K v all_small (home_in before small (right_of z)) (home_attached before o small gs (right_of z) h))
  small_at later l (right_of z) (inr h) r =
      rw (late_new before o small gs K same' later (laid_small before o big small gb gs w base later l) z h) (rw (late_new before o big gb K w later l z h) at r)

  -- the version is closed in the second tree
  pub closed_small : (later : List Node) → LaterNodes (has_node big) K later → ClosedPart v (grown_over before big later) → ClosedPart v (grown_over before small later)
  closed_small [] l c = All-weaker _ _ (λ n h _. attached_like K v all_small n.attachment h.1) small (inside small gs)
  closed_small (a ∷ later) l c = ((λ va. small_at later l.3 a.attachment l.2 (c.0 va)), closed_small later l.3 c.1)

  module _ (later : List Node) (l : LaterNodes (has_node big) K later) (cl : ClosedPart v (grown_over before big later)) (p : Attachment) (q : Origin (λ y. has_node (grown_over before small later) y && v y) p) where
    abbrev T : Tree
    T = grown_over before big later

    abbrev t : Tree
    t = grown_over before small later

    ls : LaterNodes K K later
    ls = laid_small before o big small gb gs w base later l

    ct : ClosedPart v t
    ct = closed_small later l cl

    q_t : Origin (has_node (only v T)) p
    q_t = origin_like _ _ (λ y h. let a = and_parts (has_node t y) (v y) h in has_only v T y (within before o big small gb gs w base later y a.0) a.1) p q

    qt : Origin (has_node (only v t)) p
    qt = origin_like _ _ (λ y h. let a = and_parts (has_node t y) (v y) h in has_only v t y a.0 a.1) p q

    seat_of : (p : Attachment) → Origin (λ y. has_node t y && v y) p → OnLater K (has_node later) p
    seat_of root h = tt
    seat_of (left_of z) h = elim h [ ]
    seat_of (right_of z) h = elim (named_cases before o small gs K same' later z (and_parts (has_node t z) (v z) h).0) [ inl k ↦ inr k | inr k ↦ inl k ]

    seated : OnLater K (has_node later) p
    seated = seat_of p q

    al : Alike before o T t (g_t before o big small gb gs w base later l) (gt before o big small gb gs w base later l)
    al = alike before o big small gb gs w base later l

    asides : (c : Name) → has_node t c ≡ true → beside_owner before T p c ≡ beside_owner before t p c
    asides c h = beside_alike before o big small gb gs w base later l al p seated c h

    one : (m n : Name) → has_node later m ≡ true → has_node later n ≡ true → v m ≡ true → v n ≡ true → beside_owner before T p m ≡ false → beside_owner before t p n ≡ false
        → ((c : Name) → has_node T c ≡ true → v c ≡ true → path_before before (path T c) (path T m) ≡ beside_owner before T p c)
        → ((c : Name) → has_node t c ≡ true → v c ≡ true → path_before before (path t c) (path t n) ≡ beside_owner before t p c) → m ≡ n
    one m n hm hn vm vn am an fm fn =
        let mT = named_late before o big gb K w later m hm in
        let nT = named_late before o big gb K w later n hn in
        let mt = named_late before o small gs K same' later m hm in
        let nt = named_late before o small gs K same' later n hn in
        one_of before o T (g_t before o big small gb gs w base later l) m n mT nT (al m n mt nt ∙ fn m mt vm ∙ sym (asides m mt) ∙ am) (fm n nT vn ∙ asides n nt ∙ an)

    join : Home before o big gb K w later l v all cl p → Home before o small gs K same' later ls v all_small ct p → OneHome before big small later v p
    join (new h e) (new k f) = record { at = p; seated = seated; in_big = e; in_small = f; closed = ct }
    join (new h e) (old k n i f a F u) = absurd (h k)
    join (old h n i e a F u) (new k f) = absurd (k h)
    join (old h m i e a F u) (old k n j f c F' u') =
        record { at = left_of m; seated = i; in_big = e; in_small = f ∙ ap left_of (sym (one m n i j u u' a c F F')); closed = ct }

    pub settles : OneHome before big small later v p
    settles =
        join (home before o big gb K w later l v all cl p (spot_of before o big gb K w later l p seated) q_t)
        (home before o small gs K same' later ls v all_small ct p (spot_of before o small gs K same' later ls p seated) qt)

    module _ (x : Name) (c : Character) (fx : has_node T x ≡ false) where
      not_named : (f : Name → Bool) → (f x ≡ true → has_node T x ≡ true) → f x ≡ false
      not_named f h = false_from_ne_true (f x) (λ e. both_ways _ fx (h e))

      more : (s : OneHome before big small later v p) → LaterNodes (has_node big) K (new_node x s.at c ∷ later)
      more s = (not_named (has_node big) (named_base before o big gb K w later x), not_named (has_node later) (named_late before o big gb K w later x), s.seated, l)

      grew : (s : OneHome before big small later v p) → GrewAlike before big small later v p x c
      grew s =
          let i : new_node x (home_in before (only v T) p) c ∷ T ≡ grown_over before big (new_node x s.at c ∷ later) = ap (λ z. new_node x z c ∷ T) s.in_big in
          let j : new_node x (home_in before (only v t) p) c ∷ t ≡ grown_over before small (new_node x s.at c ∷ later) = ap (λ z. new_node x z c ∷ t) s.in_small in
          record {
            at = s.at;
            laid = more s;
            in_big = i;
            in_small = j;
            agree = subst₂ (Agrees before) (sym i) (sym j) (twins before o big small gb gs ag (new_node x s.at c ∷ later) (more s));
          }

      pub grows : GrewAlike before big small later v p x c
      grows = grew settles
