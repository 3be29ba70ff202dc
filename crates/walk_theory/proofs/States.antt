-- What the states of characters say of a version.
use Rattle.std.proofs.Common.{◌≡◌, ℕ, suc, ◌+◌, Bool, true, false, cond, not, ◌&&◌, ◌||◌, eqb, ltb, ◌⊎◌, List, [], ◌∷◌, ◌++◌, length, filter, sym, refl, ap, ◌∙◌, subst, inl, inr, arith}
use Rattle.std.proofs.lemmas.Bool.{both_ways, cases_Bool, or_cases, ltb-true, ltb-false, lt-ltb, le-ltb, eq-eqb, ne_eqb}
use Rattle.events.specs.declared.name.Name.{Name}
use Rattle.events.specs.Parts.{NamedEvent}
use Rattle.fugue.specs.Names.{same, has}
use Rattle.fugue.specs.Logs.{NewestFirst, version, Distinct}
use Rattle.fugue.specs.Tree.{Node, Tree, only, has_node, Grown}
use Rattle.fugue.specs.Placements.{Placement, inserted, deleted, beyond, Placed, node_of, target_of, nodes, targets, struck, part_of, placements, seen, placement_in, tree_at, tree}
use Rattle.fugue.proofs.Names.{same_name, has_append}
use Rattle.fugue.proofs.Lists.{all_members, kept_like}
use Rattle.fugue.proofs.Versions.{reach, reach_parent, other_event, version_cases, version_older, version_mono, version_held, version_step}
use Rattle.fugue.proofs.SameEvents.{place, placements_step, placed_held}
use Rattle.fugue.proofs.Placed.{Fitting, tree_part, sound_in, part_has, grown_log}
use Rattle.walk_theory.specs.States.{touches, state_in}

-- the characters with a name, and the strikes of it
abbrev inserts_of : List Node → Name → ℕ
inserts_of ns x = length (filter (λ n. same n.name x) ns)

abbrev strikes_of : List Name → Name → ℕ
strikes_of ys x = length (filter (λ y. same y x) ys)

state_parts : (ps : List Placed) (x : Name) → state_in ps x ≡ inserts_of (nodes ps) x + strikes_of (targets ps) x
unfolding nodes targets
state_parts [] x = refl
state_parts (p ∷ ps) x = go p.placement (state_parts ps x)
  where
    go : (m : Placement) → state_in ps x ≡ inserts_of (nodes ps) x + strikes_of (targets ps) x
        → length (cond (touches m x) (p ∷ filter (λ q. touches q.placement x) ps) (filter (λ q. touches q.placement x) ps))
        ≡ inserts_of (node_of m ++ nodes ps) x + strikes_of (target_of m ++ targets ps) x
    go (inserted n) ih = elim (cases_Bool (same n.name x)) [ inl e ↦ rw e (omega (arith, ih)) | inr e ↦ rw e ih ]
    go (deleted y) ih = elim (cases_Bool (same y x)) [ inl e ↦ rw e (omega (arith, ih)) | inr e ↦ rw e ih ]
    go beyond ih = ih

strikes_tell : (ys : List Name) (x : Name) → ltb 0 (strikes_of ys x) ≡ has ys x
strikes_tell [] x = refl
strikes_tell (y ∷ ys) x = elim (cases_Bool (same y x)) [ inl e ↦ rw e (lt-ltb 0 _ (omega arith)) | inr e ↦ rw e (strikes_tell ys x) ]

no_insert : (t : Tree) (w : Name → Bool) (x : Name) → has_node t x ≡ false → inserts_of (only w t) x ≡ 0
no_insert [] w x h = refl
no_insert (n ∷ t) w x h = let ih = no_insert t w x in grind (arith, ih)

one_insert : (t : Tree) → Grown t → (w : Name → Bool) (x : Name) → has_node t x ≡ true → inserts_of (only w t) x ≡ cond (w x) 1 0
one_insert [] g w x h = absurd (both_ways false refl h)
one_insert (n ∷ t) g w x h = elim (cases_Bool (same n.name x)) [
  | inl e ↦ let q = same_name n.name x e in let z = no_insert t w x (rw q at g.0) in own q z (cases_Bool (w x)) e
  | inr e ↦ let ih = one_insert t g.2 w x (rw e at h) in other (cases_Bool (w n.name)) e ih
]
  where
    own : n.name ≡ x → inserts_of (only w t) x ≡ 0 → (w x ≡ true) ⊎ (w x ≡ false) → same n.name x ≡ true → inserts_of (only w (n ∷ t)) x ≡ cond (w x) 1 0
    own q z (inl a) e = let b : w n.name ≡ true = ap w q ∙ a in rw (b, e, a) (ap suc z)
    own q z (inr a) e = let b : w n.name ≡ false = ap w q ∙ a in rw (b, a) z

    other : (w n.name ≡ true) ⊎ (w n.name ≡ false) → same n.name x ≡ false → inserts_of (only w t) x ≡ cond (w x) 1 0 → inserts_of (only w (n ∷ t)) x ≡ cond (w x) 1 0
    other (inl a) e ih = rw (a, e) ih
    other (inr a) e ih = rw a ih

-- a strike among some placed events is by the first of them or by another
first_or_rest : (v : List Name) (p : Placed) (ps : List Placed) (x : Name) → struck (part_of v (p ∷ ps)) x ≡ true
    → ((has v p.name ≡ true) × (has (target_of p.placement) x ≡ true)) ⊎ (struck (part_of v ps) x ≡ true)
unfolding targets
first_or_rest v p ps x h = go (has v p.name) refl h
  where
    go : (b : Bool) → has v p.name ≡ b → struck (cond b (p ∷ part_of v ps) (part_of v ps)) x ≡ true → ((has v p.name ≡ true) × (has (target_of p.placement) x ≡ true)) ⊎ (struck (part_of v ps) x ≡ true)
    go true e k = elim (or_cases _ _ (sym (has_append (target_of p.placement) (targets (part_of v ps)) x) ∙ k)) [ inl a ↦ inl (e, a) | inr a ↦ inr a ]
    go false e k = inr k

module _ (before : Name → Name → Bool) where
  target_seen : (e : NamedEvent) (older : NewestFirst) (x : Name) (m : Placement) → Fitting (tree_at before older e.parents) e.name m → has (target_of m) x ≡ true
      → has (version older e.parents) x ≡ true
  target_seen e older x (inserted n) f h = absurd (both_ways false refl h)
  target_seen e older x (deleted y) f h = elim (or_cases _ _ h) [
    | inl q ↦ (part_has before older e.parents x (rw (same_name y x q) at f)).1
    | inr q ↦ absurd (both_ways false refl q)
  ]
  target_seen e older x beyond f h = absurd (both_ways false refl h)

  nothing_struck : (heads : List Name) (x : Name) → struck (part_of (version [] heads) (placements before [])) x ≡ true → ⊥
  unfolding placements targets
  nothing_struck heads x h = both_ways false refl h

  -- what a version strikes, it has
  pub struck_in : (log : NewestFirst) → Distinct log → (heads : List Name) (x : Name) → struck (seen before log heads) x ≡ true → has (version log heads) x ≡ true
  unfolding seen
  struck_in [] u heads x h = absurd (nothing_struck heads x h)
  struck_in (e ∷ older) u heads x h =
      elim (first_or_rest (version (e ∷ older) heads) (place before older e) (placements before older) x (rw (placements_step before e older) at h)) [
        | inl q ↦ elim (version_cases e older heads e.name q.0) [
          | inl r ↦ version_older e older heads x (version_mono older e.parents (reach e heads) (λ y. reach_parent e heads y r.0) x
              (target_seen e older x (placement_in before older e) (sound_in before e older) q.1))
          | inr r ↦ absurd (both_ways _ u.0 (version_held older (reach e heads) e.name r))
        ]
        | inr q ↦ version_older e older heads x (struck_in older u.1 (reach e heads) x (subst (λ z. struck z x ≡ true) like q))
      ]
    where
      like : part_of (version (e ∷ older) heads) (placements before older) ≡ part_of (version older (reach e heads)) (placements before older)
      like = kept_like (λ p. has (version (e ∷ older) heads) p.name) (λ p. has (version older (reach e heads)) p.name) (placements before older)
          (all_members _ (placements before older) (λ p i. let d = other_event older e u.0 p.name (placed_held before older p i) in
          version_step e older heads p.name ∙ weigh (has heads e.name) (same e.name p.name) (has (version older (reach e heads)) p.name) d))
        where
          weigh : (a b c : Bool) → b ≡ false → ((a && b) || c) ≡ c
          weigh a b c d = grind arith

  pub states_tell : (log : NewestFirst) → Distinct log → (heads : List Name) (x : Name) → has_node (tree before log) x ≡ true
      → (ltb 0 (state_in (seen before log heads) x) ≡ has (version log heads) x)
      × (eqb (state_in (seen before log heads) x) 1 ≡ (has (version log heads) x && not (struck (seen before log heads) x)))
  unfolding tree_at
  states_tell log u heads x h =
      let w = has (version log heads) in
      let a : inserts_of (nodes (seen before log heads)) x ≡ cond (w x) 1 0 = ap (λ t. inserts_of t x) (tree_part before log heads) ∙ one_insert (tree before log) (grown_log before log u) w x h in
      weigh (w x) (state_in (seen before log heads) x) (inserts_of (nodes (seen before log heads)) x) (strikes_of (targets (seen before log heads)) x) (struck (seen before log heads) x)
      (state_parts (seen before log heads) x) a (strikes_tell (targets (seen before log heads)) x) (struck_in log u heads x)
    where
      weigh : (w : Bool) (s i d : ℕ) (k : Bool) → s ≡ i + d → i ≡ cond w 1 0 → ltb 0 d ≡ k → (k ≡ true → w ≡ true) → (ltb 0 s ≡ w) × (eqb s 1 ≡ (w && not k))
      weigh true s i d k e f g c = (
        lt-ltb 0 s (omega (arith, e, f)),
        elim (cases_Bool k) [
          | inl q ↦ rw q (ne_eqb s 1 (λ z. omega (arith, e, f, ltb-true 0 d (g ∙ q), z)))
          | inr q ↦ rw q (eq-eqb s 1 (omega (arith, e, f, ltb-false 0 d (g ∙ q))))
        ],
      )
      weigh false s i d k e f g c = elim (cases_Bool k) [
        | inl q ↦ absurd (both_ways false refl (c q))
        | inr q ↦ let z = ltb-false 0 d (g ∙ q) in (le-ltb 0 s (omega (arith, e, f, z)), ne_eqb s 1 (λ y. omega (arith, e, f, z, y)))
      ]
