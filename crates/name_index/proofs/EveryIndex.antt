-- Every index is lawful.
use Rattle.std.proofs.Common.{vec_items, ap, arith}
use mathlib.Core.Logic.{∥∥₁_elim}
use native.Mathlib.Nat.{ℕ_set}
use lib.ListN.{length-map}
use Rattle.events.specs.declared.name.Name.{Name}
use Rattle.events.specs.Same.{name_is}
use Rattle.name_index.specs.declared.index.NameIndex.{NameIndex}
use Rattle.name_index.specs.Walks.{name_of}
use Rattle.name_index.specs.Laws.{Lawful}
use Rattle.name_index.proofs.Walking.{long_walk}

pub lawful : (s : NameIndex) → Lawful s
lawful s = record {
  distinct = λ i j x p q. ∥∥₁_elim s.sound (ℕ_set _ _) (λ h. h.apart i j x p q);
  within = omega (arith, s.within, s.nodes.ok.0, length-map (vec_items s.nodes) name_of);
  small = s.small;
  short = λ x y d k p q l.
      name_is
      (∥∥₁_elim s.sound (ℕ_set _ _) (λ h. ap (λ (n : Name). n.author) (long_walk (vec_items s.nodes) h x y d k p q l)))
      (∥∥₁_elim s.sound (ℕ_set _ _) (λ h. ap (λ (n : Name). n.number) (long_walk (vec_items s.nodes) h x y d k p q l)));
}
