-- The links and the names of the nodes, once a node is hung at an absent link and stands at the end.
use Rattle.std.proofs.Common.{◌≡◌, ℕ, zero, suc, ◌<◌, Bool, true, false, ◌⊎◌, List, [], ◌∷◌, ◌++◌, map, length, set, Some, None, sym, refl, ap, ◌∙◌, inl, inr, arith}
use Rattle.std.specs.List.{slice_get}
use Rattle.std.specs.Option.{option_map}
use Rattle.std.proofs.lemmas.List.{map-append}
use Rattle.std.proofs.lemmas.Option.{none-some, same_Some, slice_get-map}
use Rattle.events.specs.declared.name.Name.{Name}
use Rattle.name_index.specs.declared.node.Node.{Node}
use Rattle.name_index.specs.Walks.{leaf, linked, link_at, name_of}

-- ---- places of a list

pub nth_push : {X : Type 0} (xs : List X) (y x : X) (i : ℕ) → slice_get xs i ≡ Some x → slice_get (xs ++ y ∷ []) i ≡ Some x
nth_push [] y x i e = cc
nth_push (z ∷ xs) y x zero e = e
nth_push (z ∷ xs) y x (suc i) e = nth_push xs y x i e

pub nth_push_cases : {X : Type 0} (xs : List X) (y x : X) (i : ℕ) → slice_get (xs ++ y ∷ []) i ≡ Some x → (slice_get xs i ≡ Some x) ⊎ ((i ≡ length xs) × (y ≡ x))
nth_push_cases [] y x zero e = inr (refl, same_Some _ _ e)
nth_push_cases [] y x (suc i) e = cc
nth_push_cases (z ∷ xs) y x zero e = inl e
nth_push_cases (z ∷ xs) y x (suc i) e =
    elim (nth_push_cases xs y x i e) [ inl h ↦ inl h | inr h ↦ inr (ap suc h.0, h.1) ]

-- ---- links

pub link_below : (ns : List Node) (k : ℕ) (b : Bool) (j : ℕ) → link_at ns k b ≡ Some j → k < length ns
link_below [] k b j e = cc
link_below (n ∷ ns) zero b j e = omega arith
link_below (n ∷ ns) (suc k) b j e = let h = link_below ns k b j e in omega arith

link_push : (ns : List Node) (x : Name) (m : ℕ) (b : Bool) (j : ℕ) → link_at ns m b ≡ Some j → link_at (ns ++ leaf x ∷ []) m b ≡ Some j
link_push [] x m b j e = cc
link_push (n ∷ ns) x zero b j e = e
link_push (n ∷ ns) x (suc m) b j e = link_push ns x m b j e

link_back : (ns : List Node) (x : Name) (m : ℕ) (b : Bool) (j : ℕ) → link_at (ns ++ leaf x ∷ []) m b ≡ Some j → link_at ns m b ≡ Some j
link_back [] x zero true j e = cc
link_back [] x zero false j e = cc
link_back [] x (suc m) b j e = cc
link_back (n ∷ ns) x zero b j e = e
link_back (n ∷ ns) x (suc m) b j e = link_back ns x m b j e

-- node n, which is node k, gets node t as its link for bit c, and a new node stands at the end
abbrev pub hung_at : List Node → ℕ → Node → Bool → ℕ → Name → List Node
hung_at ns k n c t x = set ns k (linked n c t) ++ leaf x ∷ []

-- the same at the node itself
link_same : (p n : Node) (c : Bool) (t : ℕ) → p ≡ n → link_at (p ∷ []) 0 c ≡ None → (b : Bool) (j : ℕ) → link_at (p ∷ []) 0 b ≡ Some j → link_at (linked n c t ∷ []) 0 b ≡ Some j
link_same p n true t e a true j h = absurd (none-some _ (sym a ∙ h))
link_same p n true t e a false j h = ap (λ (q : Node). q.zero) (sym e) ∙ h
link_same p n false t e a true j h = ap (λ (q : Node). q.one) (sym e) ∙ h
link_same p n false t e a false j h = absurd (none-some _ (sym a ∙ h))

pub link_kept : (ns : List Node) (k : ℕ) (n : Node) (c : Bool) (t : ℕ) (x : Name) → slice_get ns k ≡ Some n → link_at ns k c ≡ None → (m : ℕ) (b : Bool) (j : ℕ) → link_at ns m b ≡ Some j → link_at (hung_at ns k n c t x) m b ≡ Some j
link_kept [] k n c t x e a m b j h = cc
link_kept (p ∷ ns) zero n c t x e a zero b j h = link_same p n c t (same_Some _ _ e) a b j h
link_kept (p ∷ ns) zero n c t x e a (suc m) b j h = link_push ns x m b j h
link_kept (p ∷ ns) (suc k) n c t x e a zero b j h = h
link_kept (p ∷ ns) (suc k) n c t x e a (suc m) b j h = link_kept ns k n c t x e a m b j h

link_other : (p n : Node) (c : Bool) (t : ℕ) → p ≡ n → (b : Bool) (j : ℕ) → link_at (linked n c t ∷ []) 0 b ≡ Some j → (link_at (p ∷ []) 0 b ≡ Some j) ⊎ ((b ≡ c) × (j ≡ t))
link_other p n true t e true j h = inr (refl, sym (same_Some _ _ h))
link_other p n true t e false j h = inl (ap (λ (q : Node). q.zero) e ∙ h)
link_other p n false t e true j h = inl (ap (λ (q : Node). q.one) e ∙ h)
link_other p n false t e false j h = inr (refl, sym (same_Some _ _ h))

pub link_cases : (ns : List Node) (k : ℕ) (n : Node) (c : Bool) (t : ℕ) (x : Name) → slice_get ns k ≡ Some n → (m : ℕ) (b : Bool) (j : ℕ) → link_at (hung_at ns k n c t x) m b ≡ Some j → (link_at ns m b ≡ Some j) ⊎ ((m ≡ k) × (b ≡ c) × (j ≡ t))
link_cases [] k n c t x e m b j h = cc
link_cases (p ∷ ns) zero n c t x e zero b j h =
    elim (link_other p n c t (same_Some _ _ e) b j h) [ inl g ↦ inl g | inr g ↦ inr (refl, g.0, g.1) ]
link_cases (p ∷ ns) zero n c t x e (suc m) b j h = inl (link_back ns x m b j h)
link_cases (p ∷ ns) (suc k) n c t x e zero b j h = inl h
link_cases (p ∷ ns) (suc k) n c t x e (suc m) b j h =
    elim (link_cases ns k n c t x e m b j h) [ inl g ↦ inl g | inr g ↦ inr (ap suc g.0, g.1, g.2) ]

link_new : (n : Node) (c : Bool) (t : ℕ) → link_at (linked n c t ∷ []) 0 c ≡ Some t
link_new n true t = refl
link_new n false t = refl

pub link_hung : (ns : List Node) (k : ℕ) (n : Node) (c : Bool) (t : ℕ) (x : Name) → slice_get ns k ≡ Some n → link_at (hung_at ns k n c t x) k c ≡ Some t
link_hung [] k n c t x e = cc
link_hung (p ∷ ns) zero n c t x e = link_new n c t
link_hung (p ∷ ns) (suc k) n c t x e = link_hung ns k n c t x e

-- ---- names

pub names_push : (ns : List Node) (x : Name) → map name_of (ns ++ leaf x ∷ []) ≡ map name_of ns ++ x ∷ []
names_push ns x = map-append name_of ns (leaf x ∷ [])

name_linked : (p n : Node) (c : Bool) (t : ℕ) → p ≡ n → name_of (linked n c t) ≡ p.name
name_linked p n true t e = ap name_of (sym e)
name_linked p n false t e = ap name_of (sym e)

pub names_hung : (ns : List Node) (k : ℕ) (n : Node) (c : Bool) (t : ℕ) (x : Name) → slice_get ns k ≡ Some n → map name_of (hung_at ns k n c t x) ≡ map name_of ns ++ x ∷ []
names_hung [] k n c t x e = cc
names_hung (p ∷ ns) zero n c t x e =
    ap (λ (y : Name). y ∷ map name_of (ns ++ leaf x ∷ [])) (name_linked p n c t (same_Some _ _ e))
    ∙ ap (λ (l : List Name). p.name ∷ l) (names_push ns x)
names_hung (p ∷ ns) (suc k) n c t x e = ap (λ (l : List Name). p.name ∷ l) (names_hung ns k n c t x e)

-- the name at a place is that of the node there
pub name_read : (ns : List Node) (i : ℕ) → slice_get (map name_of ns) i ≡ option_map name_of (slice_get ns i)
name_read ns i = slice_get-map name_of ns i

pub name_of_read : (ns : List Node) (i : ℕ) (n : Node) → slice_get ns i ≡ Some n → slice_get (map name_of ns) i ≡ Some n.name
name_of_read ns i n e = name_read ns i ∙ ap (option_map name_of) e
