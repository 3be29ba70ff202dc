-- Sorting keeps the nodes, and puts nodes with different names into sibling order.
use Rattle.std.proofs.Common.{◌≡◌, Bool, true, false, List, [], ◌∷◌, refl, inl, inr, arith}
use Rattle.std.specs.List.{AllByRecursion}
use Rattle.std.proofs.lemmas.Bool.{cond_both}
use Rattle.std.proofs.ByRecursion.{All-weaker}
use Rattle.events.specs.declared.name.Name.{Name}
use Rattle.fugue.specs.Names.{◌∈◌, Rising, Ordered}
use Rattle.fugue.specs.Tree.{Node, among, sorted}
use Rattle.fugue.proofs.Names.{order_cases}

abbrev pub InOrder : (Name → Name → Bool) → List Node → Type 0
InOrder before ns = Rising (λ m n. before m.name n.name ≡ true) ns

-- no two have one name
abbrev pub Apart : List Node → Type 0
Apart ns = Rising (λ m n. m.name ≡ n.name → ⊥) ns

module _ (before : Name → Name → Bool) where
  among_cases : (n m : Node) (ms : List Node) (P : List Node → Type 0) → (before m.name n.name ≡ true → P (m ∷ among before n ms))
      → (before m.name n.name ≡ false → P (n ∷ m ∷ ms)) → P (among before n (m ∷ ms))
  among_cases n m ms P = cond_both (before m.name n.name) (m ∷ among before n ms) (n ∷ m ∷ ms) P

  all_among : (P : Node → Type 0) (n : Node) (ms : List Node) → P n → AllByRecursion P ms → AllByRecursion P (among before n ms)
  all_among P n [] p a = (p, tt)
  all_among P n (m ∷ ms) p a = among_cases n m ms (AllByRecursion P) (λ _. (a.0, all_among P n ms p a.1)) (λ _. (p, a))

  pub all_sorted : (P : Node → Type 0) (ns : List Node) → AllByRecursion P ns → AllByRecursion P (sorted before ns)
  unfolding sorted
  all_sorted P [] a = tt
  all_sorted P (n ∷ ns) a = all_among P n (sorted before ns) a.0 (all_sorted P ns a.1)

  among_new : (n : Node) (ms : List Node) → n ∈ among before n ms
  among_new n [] = inl refl
  among_new n (m ∷ ms) = among_cases n m ms (λ l. n ∈ l) (λ _. inr (among_new n ms)) (λ _. inl refl)

  among_old : (n : Node) (ms : List Node) (x : Node) → x ∈ ms → x ∈ among before n ms
  among_old n [] x i = elim i [ ]
  among_old n (m ∷ ms) x (inl e) = among_cases n m ms (λ l. x ∈ l) (λ _. inl e) (λ _. inr (inl e))
  among_old n (m ∷ ms) x (inr i) = among_cases n m ms (λ l. x ∈ l) (λ _. inr (among_old n ms x i)) (λ _. inr (inr i))

  pub in_sorted : (ns : List Node) (x : Node) → x ∈ ns → x ∈ sorted before ns
  unfolding sorted
  in_sorted [] x i = i
  in_sorted (n ∷ ns) x (inl e) = rw e (among_new n (sorted before ns))
  in_sorted (n ∷ ns) x (inr i) = among_old n (sorted before ns) x (in_sorted ns x i)

  module _ (o : Ordered before) where
    among_rises : (n : Node) (ms : List Node) → InOrder before ms → AllByRecursion (λ m. n.name ≡ m.name → ⊥) ms → InOrder before (among before n ms)
    among_rises n [] r a = (tt, tt)
    among_rises n (m ∷ ms) r a =
        among_cases n m ms (InOrder before)
        (λ e. (all_among _ n ms e r.0, among_rises n ms r.1 a.1))
        (λ e. let f : before n.name m.name ≡ true = grind (arith, order_cases before o m.name n.name, a.0) in
        ((f, All-weaker _ _ (λ k g. o.transitive _ _ _ f g) ms r.0), r))

    pub sorted_rises : (ns : List Node) → Apart ns → InOrder before (sorted before ns)
    unfolding sorted
    sorted_rises [] a = tt
    sorted_rises (n ∷ ns) a = among_rises n (sorted before ns) (sorted_rises ns a.1) (all_sorted _ ns a.0)
