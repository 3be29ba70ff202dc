-- An edit, carried out on the old text, gives the new text.
use Rattle.std.proofs.Common.{◌≡◌, suc, ◌<◌, ◌≤◌, Bool, true, false, not, ◌||◌, List, [], ◌∷◌, ◌++◌, map, length, take, drop, Some, None, filter, Option, sym, refl, ap, ◌∙◌, subst, ap₂, inl, inr, arith, length-append}
use lib.Seq.{take-append_seam, drop-append_seam}
use Rattle.std.specs.List.{AllByRecursion, slice_get}
use Rattle.std.proofs.lemmas.List.{map-append, length-map}
use Rattle.std.proofs.lemmas.Bool.{both_ways, cases_Bool, or_cases}
use Rattle.std.proofs.lemmas.List.Elements.{filter-append}
use Rattle.std.proofs.ByRecursion.{All-weaker}
use Rattle.std.proofs.lemmas.Bool.{false_from_ne_true}
use Rattle.events.specs.declared.name.Name.{Name}
use Rattle.events.specs.declared.character.Character.{Character}
use Rattle.events.specs.declared.deed.Deed.{Deed}
use Rattle.events.specs.declared.deed.Deed.TheVariants as deed
use Rattle.events.specs.Parts.{NamedEvent}
use Rattle.fugue.specs.Names.{same, has, Ordered}
use Rattle.fugue.specs.Logs.{NewestFirst, names, Distinct}
use Rattle.fugue.specs.Tree.{Node, sequence, Grown}
use Rattle.fugue.specs.Placements.{Placement, inserted, deleted, beyond, Placed, node_of, target_of, nodes, targets, struck, LeftOrigin, left_origin, visible, placement, placements, seen, placement_in, after, tree_at, tree, characters, text}
use Rattle.fugue.specs.Edits.{in_front_of, edit_of, edit, character_of, carry_out, Fits}
use Rattle.fugue.proofs.Names.{same_name, same_own, has_append}
use Rattle.fugue.proofs.Lists.{all_members, all_left, all_right, kept_like}
use Rattle.fugue.proofs.Sorted.{Apart}
use Rattle.fugue.proofs.Grown.{has_node_append, has_node, attached_like}
use Rattle.fugue.proofs.Paths.{sequence_has, sequence_apart}
use Rattle.fugue.proofs.Placed.{deleted_at, inserted_at, Fitting, sound_in, tree_step, part_has, fresh_node, grown_log}
use Rattle.fugue.proofs.Leaf.{others, new_is, old_is}
use Rattle.fugue.proofs.Beside.{Cut, cut}

drop_next : {X : Type 0} (a : List X) (x : X) (b : List X) → drop (suc (length a)) (a ++ x ∷ b) ≡ b
drop_next [] x b = refl
drop_next (y ∷ a) x b = drop_next a x b

abbrev spell : List Node → List Character
spell ns = map (λ n. n.character) ns

spell_append : (a b : List Node) → spell (a ++ b) ≡ spell a ++ spell b
spell_append a b = map-append (λ n. n.character) a b

spell_long : (a : List Node) → length (spell a) ≡ length a
spell_long a = length-map a (λ n. n.character)

-- the text in front of some nodes, and the rest
module _ (a b : List Node) where
  front : take (length a) (spell (a ++ b)) ≡ spell a
  front = ap₂ take (sym (spell_long a)) (spell_append a b) ∙ take-append_seam (spell a) (spell b)

  back : drop (length a) (spell (a ++ b)) ≡ spell b
  back = ap₂ drop (sym (spell_long a)) (spell_append a b) ∙ drop-append_seam (spell a) (spell b)

  back_next : (n : Node) → drop (suc (length a)) (spell (a ++ n ∷ b)) ≡ spell b
  back_next n = ap₂ (λ k l. drop (suc k) l) (sym (spell_long a)) (spell_append a (n ∷ b)) ∙ drop_next (spell a) n.character (spell b)

  long : length a ≤ length (spell (a ++ b))
  long = let e = spell_long (a ++ b) in let f = length-append a b in omega (arith, e, f)

module _ (before : Name → Name → Bool) (o : Ordered before) (ps : List Placed) (g : Grown (nodes ps)) (x : Name) where
  abbrev shown : Node → Bool
  shown n = not (struck ps n.name)

  abbrev pub with' : Placement → List Placed
  with' m = record { name = x; placement = m } ∷ ps

  abbrev old : List Node
  old = sequence before (nodes ps)

  abbrev pub Does : NamedEvent → Placement → Type 0
  Does e m =
      (characters before (with' m) ≡ carry_out e (edit_of before ps m) (characters before ps)) × Fits (edit_of before ps m) (characters before ps)

  characters_are : characters before ps ≡ spell (filter shown old)
  unfolding characters visible
  characters_are = refl

  inserted_are : (n : Node) → characters before (with' (inserted n)) ≡ spell (filter shown (sequence before (n ∷ nodes ps)))
  unfolding characters visible nodes targets
  inserted_are n = refl

  deleted_are : (y : Name) → characters before (with' (deleted y)) ≡ spell (filter (λ n. not (same y n.name || struck ps n.name)) old)
  unfolding characters visible nodes targets
  deleted_are y = refl

  beyond_are : characters before (with' beyond) ≡ characters before ps
  unfolding characters visible nodes targets
  beyond_are = refl

  module _ (n : Node) (gn : Grown (n ∷ nodes ps)) (alive : struck ps n.name ≡ false) where
    abbrev A : List Node
    A = in_front_of n.name (sequence before (n ∷ nodes ps))

    abbrev B : List Node
    B = after n.name (sequence before (n ∷ nodes ps))

    LA : List Node
    LA = filter shown A

    LB : List Node
    LB = filter shown B

    old_text : characters before ps ≡ spell (LA ++ LB)
    unfolding LA LB
    old_text = characters_are ∙ ap spell (ap (filter shown) (old_is before o n (nodes ps) gn) ∙ filter-append shown A B)

    new_text : characters before (with' (inserted n)) ≡ spell LA ++ n.character ∷ spell LB
    unfolding LA LB
    new_text =
        inserted_are n
        ∙ ap spell (ap (filter shown) (new_is before o n (nodes ps) gn) ∙ filter-append shown A (n ∷ B) ∙ rw alive)
        ∙ spell_append LA (n ∷ LB)

    inserts : (e : NamedEvent) → character_of e.deed ≡ n.character ∷ [] → Does e (inserted n)
    unfolding LA LB
    inserts e h = (
      new_text
          ∙ sym (ap₂ (λ t d. t ++ (character_of e.deed ++ d)) (ap (take (length LA)) old_text ∙ front LA LB) (ap (drop (length LA)) old_text ∙ back LA LB)
          ∙ ap (λ c. spell LA ++ (c ++ spell LB)) h),
      subst (λ t. length LA ≤ length t) (sym old_text) (long LA LB),
    )

  module _ (y : Name) where
    gone : Node → Bool
    gone n = not (same y n.name || struck ps n.name)

    -- deleted once more
    again : struck ps y ≡ true → characters before (with' (deleted y)) ≡ characters before ps
    again h =
        deleted_are y
        ∙ ap spell (kept_like (λ n. not (same y n.name || struck ps n.name)) shown old (all_members _ old (λ n _. alike n.name)))
        ∙ sym characters_are
      where
        alike : (z : Name) → not (same y z || struck ps z) ≡ not (struck ps z)
        alike z = elim (cases_Bool (same y z)) [
          | inl q ↦ let k : struck ps z ≡ true = rw (same_name y z q) at h in rw (q, k)
          | inr q ↦ rw q
        ]

    module _ (h : has_node (nodes ps) y ≡ true) (alive : struck ps y ≡ false) where
      abbrev C : List Node
      C = in_front_of y old

      abbrev D : List Node
      D = after y old

      cut_here : Cut y old
      cut_here = cut y old (sequence_has before o (nodes ps) g y h)

      target : Node
      target = cut_here.at

      apart_here : Apart (C ++ target ∷ D)
      unfolding target
      apart_here = subst Apart cut_here.is (sequence_apart before o (nodes ps) g)

      LC : List Node
      LC = filter shown C

      LD : List Node
      LD = filter shown D

      before_text : characters before ps ≡ spell (LC ++ target ∷ LD)
      unfolding LC LD target
      before_text =
          let k : struck ps target.name ≡ false = ap (struck ps) cut_here.name ∙ alive in
          characters_are ∙ ap spell (ap (filter shown) cut_here.is ∙ filter-append shown C (target ∷ D) ∙ rw k)

      after_text : characters before (with' (deleted y)) ≡ spell LC ++ spell LD
      unfolding LC LD gone target
      after_text =
          let rest = others y C D target cut_here.name apart_here in
          let q : same y target.name ≡ true = ap (same y) cut_here.name ∙ same_own y in
          let like : AllByRecursion (λ m. gone m ≡ shown m) (C ++ D) = All-weaker _ _ (λ m k. rw k) (C ++ D) rest in
          deleted_are y
          ∙ ap spell (ap (filter gone) cut_here.is ∙ filter-append gone C (target ∷ D) ∙ rw q
          (ap₂ ◌++◌ (kept_like gone shown C (all_left _ C D like)) (kept_like gone shown D (all_right _ C D like))))
          ∙ spell_append LC LD

      deletes : (characters before (with' (deleted y)) ≡ take (length LC) (characters before ps) ++ drop (suc (length LC)) (characters before ps))
          × (length LC < length (characters before ps))
      deletes = (
        after_text
            ∙ sym (ap₂ ◌++◌ (ap (take (length LC)) before_text ∙ front LC (target ∷ LD)) (ap (drop (suc (length LC))) before_text ∙ back_next LC LD target)),
        subst (λ t. length LC < length t) (sym before_text) (let e = spell_long (LC ++ target ∷ LD) in let f = length-append LC (target ∷ LD) in omega (arith, e, f)),
      )

      does : (e : NamedEvent) → Does e (deleted y)
      unfolding LC
      does e = rw alive deletes

    does_again : struck ps y ≡ true → (e : NamedEvent) → Does e (deleted y)
    does_again k e = rw k (again k, tt)

  does_nothing : (e : NamedEvent) → Does e beyond
  does_nothing e = (beyond_are, tt)

-- by what an event comes to
pub does_placement : (before : Name → Name → Bool) (o : Ordered before) (ps : List Placed) (g : Grown (nodes ps)) (e : NamedEvent) (m : Placement)
    → Fitting (nodes ps) e.name m → has_node (nodes ps) e.name ≡ false → struck ps e.name ≡ false
    → ((n : Node) → m ≡ inserted n → character_of e.deed ≡ n.character ∷ []) → Does before o ps g e.name e m
does_placement before o ps g e (inserted n) s f alive c =
    inserts before o ps g e.name n (rw s.0 f, s.1, g) (ap (struck ps) s.0 ∙ alive) e (c n refl)
does_placement before o ps g e (deleted y) s f alive c = elim (cases_Bool (struck ps y)) [
  | inl k ↦ does_again before o ps g e.name y k e
  | inr k ↦ does before o ps g e.name y s k e
]
does_placement before o ps g e beyond s f alive c = does_nothing before o ps g e.name e

-- an insert's node has the event's character
pub inserted_character : (before : Name → Name → Bool) (ps : List Placed) (x : Name) (d : Deed) (n : Node) → placement before ps x d ≡ inserted n → character_of d ≡ n.character ∷ []
unfolding placement
inserted_character before ps x (deed.Insert c p) n e = go (left_origin (visible before ps) p.at) e
  where
    go : (o : Option LeftOrigin) → inserted_at before ps x c o ≡ inserted n → c ∷ [] ≡ n.character ∷ []
    go None e = absurd (grind arith)
    go (Some o) e = cc
inserted_character before ps x (deed.Delete p) n e = go (slice_get (visible before ps) p.at) e
  where
    go : (m : Option Node) → deleted_at m ≡ inserted n → [] ≡ n.character ∷ []
    go None e = absurd (grind arith)
    go (Some m) e = absurd (grind arith)

module _ (before : Name → Name → Bool) where
  pub struck_step : (e : NamedEvent) (log : NewestFirst) (x : Name)
      → struck (placements before (e ∷ log)) x ≡ (has (target_of (placement_in before log e)) x || struck (placements before log) x)
  unfolding placements placement_in seen targets
  struck_step e log x = has_append (target_of (placement_in before log e)) (targets (placements before log)) x

  -- what is struck is a node
  pub struck_node : (log : NewestFirst) (x : Name) → struck (placements before log) x ≡ true → has_node (tree before log) x ≡ true
  unfolding placements targets
  struck_node [] x h = absurd (both_ways false refl h)
  struck_node (e ∷ log) x h =
      rw (tree_step before e log) (has_node_append (node_of (placement_in before log e)) (tree before log) x ∙ in_old (elim (or_cases _ _ (sym (struck_step e log x) ∙ h)) [
        | inl i ↦ new (placement_in before log e) (sound_in before e log) i
        | inr i ↦ struck_node log x i
      ]))
    where
      in_old : has_node (tree before log) x ≡ true → (has_node (node_of (placement_in before log e)) x || has_node (tree before log) x) ≡ true
      in_old k = grind arith

      new : (m : Placement) → Fitting (tree_at before log e.parents) e.name m → has (target_of m) x ≡ true → has_node (tree before log) x ≡ true
      new (inserted n) s i = absurd (both_ways false refl i)
      new (deleted y) s i = elim (or_cases _ _ i) [
        | inl q ↦ (part_has before log e.parents x (rw (same_name y x q) at s)).0
        | inr q ↦ absurd (both_ways false refl q)
      ]
      new beyond s i = absurd (both_ways false refl i)

  pub fresh_struck : (e : NamedEvent) (log : NewestFirst) → has (names log) e.name ≡ false → struck (placements before log) e.name ≡ false
  fresh_struck e log f = false_from_ne_true (struck (placements before log) e.name) (λ h. both_ways _ (fresh_node before e log f) (struck_node log e.name h))

  module _ (o : Ordered before) (log : NewestFirst) (e : NamedEvent) (u : Distinct (e ∷ log)) where
    abbrev ps : List Placed
    ps = placements before log

    g : Grown (nodes ps)
    unfolding tree
    g = grown_log before log u.1

    inserted_here : (n : Node) → placement_in before log e ≡ inserted n → character_of e.deed ≡ n.character ∷ []
    unfolding placement_in
    inserted_here n q = inserted_character before (seen before log e.parents) e.name e.deed n q

    sound_here : Fitting (nodes ps) e.name (placement_in before log e)
    unfolding tree
    sound_here = sound_more (placement_in before log e) (sound_in before e log)
      where
        sound_more : (m : Placement) → Fitting (tree_at before log e.parents) e.name m → Fitting (tree before log) e.name m
        sound_more (inserted n) s = (s.0, attached_like _ _ (λ x h. (part_has before log e.parents x h).0) n.attachment s.1)
        sound_more (deleted y) s = (part_has before log e.parents y s).0
        sound_more beyond s = tt

    pub edit_gives : (text before (e ∷ log) ≡ carry_out e (edit before log e) (text before log)) × Fits (edit before log e) (text before log)
    unfolding text edit placements placement_in seen tree
    edit_gives =
        does_placement before o ps g e (placement_in before log e) sound_here (fresh_node before e log u.0) (fresh_struck e log u.0) inserted_here
