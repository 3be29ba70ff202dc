-- What the weight of a tree says of its entries.
use Rattle.std.proofs.Common.{◌≡◌, ◌∷◌, length, refl, arith, length-append}
use Rattle.indexes.specs.Entries.{is_prepared, is_present}
use Rattle.indexes.specs.Questions.{count}
use Rattle.indexes.proofs.Counts.{count_append, bit_small}
use Rattle.avl_tree.specs.Nodes.{Sane}
use Rattle.avl_tree.specs.Tree.{Tree, leaf, node, entries, numbers, weight, size}

pub size_entries : (t : Tree) → size t ≡ length (entries t)
size_entries leaf = refl
size_entries (node l i e r) =
    let a = size_entries l in
    let b = size_entries r in
    omega (arith, a, b, length-append (entries l) (e ∷ entries r))

pub size_numbers : (t : Tree) → size t ≡ length (numbers t)
size_numbers leaf = refl
size_numbers (node l i e r) =
    let a = size_numbers l in
    let b = size_numbers r in
    omega (arith, a, b, length-append (numbers l) (i ∷ numbers r))

pub prepared_entries : (t : Tree) → (weight t).prepared ≡ count is_prepared (entries t)
prepared_entries leaf = refl
prepared_entries (node l i e r) =
    let a = prepared_entries l in
    let b = prepared_entries r in
    omega (arith, a, b, count_append is_prepared (entries l) (e ∷ entries r))

pub present_entries : (t : Tree) → (weight t).present ≡ count is_present (entries t)
present_entries leaf = refl
present_entries (node l i e r) =
    let a = present_entries l in
    let b = present_entries r in
    omega (arith, a, b, count_append is_present (entries l) (e ∷ entries r))

pub sane : (t : Tree) → Sane (weight t)
sane leaf = record { tall = omega arith; prepared_some = omega arith; present_some = omega arith }
sane (node l i e r) =
    let a = sane l in
    let b = sane r in
    record {
      tall = omega (arith, a.tall, b.tall);
      prepared_some = omega (arith, a.prepared_some, b.prepared_some, bit_small (is_prepared e));
      present_some = omega (arith, a.present_some, b.present_some, bit_small (is_present e));
    }
