-- The home by a count of what hangs at a place, and the place where nothing hangs at the home.
use Rattle.std.proofs.Common.{◌≡◌, ℕ, zero, suc, ◌+◌, ◌≤◌, Bool, true, false, ◌&&◌, List, [], ◌∷◌, reverse, length, Some, None, filter, Option, sym, refl, ap, ◌∙◌, inl, inr, arith}
use Rattle.std.specs.List.{AllByRecursion}
use Rattle.std.proofs.lemmas.Bool.{cases_Bool, and_parts, and_from}
use Rattle.std.proofs.lemmas.List.{nil_from_length}
use Rattle.std.proofs.ByRecursion.{All-weaker}
use Rattle.events.specs.declared.name.Name.{Name}
use Rattle.events.specs.declared.character.Character.{Character}
use Rattle.fugue.specs.Names.{Ordered, ◌∈◌}
use Rattle.fugue.specs.Placements.{attached_by}
use Rattle.fugue.specs.Tree.{Attachment, left_of, same_attachment, Node, Tree, children, sequence, only, ClosedPart, has_node, Grown}
use Rattle.fugue.proofs.Grown.{age_below, grown_only}
use Rattle.fugue.proofs.Lists.{kept_member, member_kept}
use Rattle.fugue.proofs.Names.{attachment_is, attachment_refl}
use Rattle.fugue.proofs.Paths.{members}
use Rattle.fugue.proofs.Sequences.{children_are}
use Rattle.walk_theory.specs.Origins.{Origin, behind, front}
use Rattle.walk_theory.specs.Tops.{top_at}
use Rattle.walk_theory.specs.Search.{until, climb, top_outside, top_precedes, top_follows, home, up, down, among}
use Rattle.walk_theory.specs.Counts.{hung, all, home_by_count, where_free, Quickly}
use Rattle.walk_theory.proofs.Tops.{found}
use Rattle.walk_theory.proofs.Cuts.{leading_none, all_reverse}
use Rattle.walk_theory.proofs.Search.{not_left, first_child, in_t, outside_is, finds, all_mid, named_behind, follow_is, home_right, home_left}

count_none : {X : Type 0} (p : X → Bool) (l : List X) → length (filter p l) ≡ 0 → (x : X) → x ∈ l → p x ≡ true → ⊥
count_none p l e x i h = elim (rw (nil_from_length (filter p l) e) at (kept_member p l x h i)) [ ]

count_some : {X : Type 0} (p : X → Bool) (l : List X) (k : ℕ) → length (filter p l) ≡ suc k → (x : X) × (x ∈ l) × (p x ≡ true)
count_some {X = X} p l k e = go (filter p l) e (member_kept p l)
  where
    go : (f : List X) → length f ≡ suc k → ((x : X) → x ∈ f → (x ∈ l) × (p x ≡ true)) → (x : X) × (x ∈ l) × (p x ≡ true)
    go [] e m = absurd (omega arith)
    go (y ∷ f) e m = let r = m y (inl refl) in (y, r.0, r.1)

-- the character of a node decides nothing
any_character : Character
any_character = record { code = 0; scalar = refl }

module _ (before : Name → Name → Bool) (o : Ordered before) (t : Tree) (g : Grown t) (v : Name → Bool) (cl : ClosedPart v t) (p : Attachment) (q : Origin (λ y. has_node t y && v y) p)
    (x : Name) (fx : has_node t x ≡ false) (d : ℕ) (deep : length t ≤ d) where
  abbrev s : List Node
  s = sequence before t

  abbrev f : List Node
  f = only v (behind p s)

  gv : Grown (only v t)
  gv = grown_only v t g cl

  none_hung : (ks : List Node) → children before (only v t) p ≡ ks → (k : ℕ) → hung v p s ≡ k → (fs : List Node) → attached_by ks fs p ≡ home_by_count k p fs
  none_hung [] ek zero ec fs = refl
  none_hung [] ek (suc k) ec fs =
      let r = count_some (λ n. v n.name && same_attachment n.attachment p) s k ec in
      let a = and_parts (v r.0.name) (same_attachment r.0.attachment p) r.2 in
      let i = ((children_are before o (only v t) gv p).are r.0).1 (kept_member (λ n. v n.name) t r.0 a.0 (in_t before o t g r.0 r.1), attachment_is r.0.attachment p a.1) in
      absurd (rw ek at i)
  none_hung (n ∷ ks) ek zero ec fs =
      let i = first_child before o (only v t) gv p n ks ek in
      let a = member_kept (λ m. v m.name) t n i.0 in
      absurd (count_none (λ m. v m.name && same_attachment m.attachment p) s ec n ((members before o t g n).1 a.0) (and_from _ _ a.1 (rw i.1 (attachment_refl p))))
  none_hung (n ∷ ks) ek (suc k) ec [] = refl
  none_hung (n ∷ ks) ek (suc k) ec (m ∷ fs) = refl

  homes : home d s p f ≡ home_by_count (hung v p s) p f
  homes = (finds before o t g v cl p q x fx d deep any_character).at_home ∙ ap (λ z. attached_by (children before (only v t) p) z p) (follow_is before o t g v cl p q x fx d deep) ∙ none_hung (children before (only v t) p) refl (hung v p s) refl f

  -- where nothing hangs at a place, nothing has a top there
  none_outside : (h : Attachment) → hung all h s ≡ 0 → (y : Name) → has_node t y ≡ true → top_outside d s v h y ≡ None
  none_outside h e y n =
      outside_is before o t g v cl h (λ m i _ w. free_of m i w) y n d (omega (arith, age_below t y n)) ∙ go (top_at t h y) refl
    where
      free_of : (m : Node) → m ∈ t → m.attachment ≡ h → ⊥
      free_of m i w = count_none (λ j. all j.name && same_attachment j.attachment h) s e m ((members before o t g m).1 i) (rw w (attachment_refl h))

      go : (m : Option Name) → top_at t h y ≡ m → top_at t h y ≡ None
      go None k = k
      go (Some z) k = let r = found t g h y n z k in absurd (free_of r.0 r.1 r.3)

  run_named : AllByRecursion (λ n. has_node t n.name ≡ true) (until v (behind p s))
  run_named = all_mid before o t g v cl p q x fx d deep _ (named_behind before o t g v cl p q x fx d deep)

  up_none : hung all p s ≡ 0 → up before d s v p x ≡ 0
  up_none e = leading_none _ (until v (behind p s)) (All-weaker _ _ (λ n k. ap (top_precedes before x) (none_outside p e n.name k)) _ run_named)

  down_none : (z : Name) → hung all (left_of z) s ≡ 0 → down before d s v p x z ≡ length (until v (behind p s))
  down_none z e =
      let a = leading_none (λ n. top_follows before x (top_outside d s v (left_of z) n.name)) (reverse (until v (behind p s)))
      (all_reverse _ (until v (behind p s)) (All-weaker _ _ (λ n k. ap (top_follows before x) (none_outside (left_of z) e n.name k)) _ run_named)) in
      omega (arith, a)

  alone_by : (k : ℕ) (fs : List Node) → home d s p fs ≡ home_by_count k p fs → hung all (home_by_count k p fs) s ≡ 0 → among before d s v p x fs ≡ where_free k (length (until v (behind p s))) fs
  alone_by zero [] e h = up_none h
  alone_by (suc k) [] e h = up_none h
  alone_by zero (n ∷ ns) e h = elim (cases_Bool (same_attachment (climb d s n.attachment) p)) [
    | inl c ↦ absurd (not_left _ p q n.name (sym (rw c at e)))
    | inr c ↦ rw c (up_none h)
  ]
  alone_by (suc k) (n ∷ ns) e h = elim (cases_Bool (same_attachment (climb d s n.attachment) p)) [
    | inl c ↦ rw c (down_none n.name h)
    | inr c ↦ absurd (not_left _ p q n.name (rw c at e))
  ]

  pub quick : Quickly before d t v p x
  quick = record {
    homes = homes;
    alone = λ e. ap (λ z. length (front p s) + z) (alone_by (hung v p s) f homes e);
    turns_up = home_right before o t g v cl p q x fx d deep any_character;
    turns_down = home_left before o t g v cl p q x fx d deep any_character;
  }
