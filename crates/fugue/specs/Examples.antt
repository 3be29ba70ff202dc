-- Small logs, what they read and which edits they hand out.
use Rattle.std.specs.Prelude.{◌%◌, ◌^◌, codes, refl, ◌≡◌, ◌∷◌}
use Rattle.std.proofs.Common.{mod-lt, lit<}
use Rattle.events.specs.declared.deed.Deed.TheVariants as deed
use Rattle.events.specs.Scalar.{is_scalar}
use Rattle.events.specs.Orders.{author_first, number_first}
use Rattle.fugue.specs.declared.edit.Edit.TheVariants.{Insert, Nothing}
use Rattle.fugue.specs.Vocabulary.{ℕ, true, List, [], map, Name, Character, Position, Deed, NamedEvent}
use Rattle.fugue.specs.Logs.{NewestFirst}
use Rattle.fugue.specs.Placements.{beyond, placement_in, text_at, text}
use Rattle.fugue.specs.Edits.{edit}
use Rattle.fugue.specs.Archive.{Admissible}

-- the name 1.5 is `called 1 5`
abbrev called : ℕ → ℕ → Name
called a n = record { author = a % 2 ^ 16; number = n % 2 ^ 28; narrow = mod-lt a (lit< tt); small = mod-lt n (lit< tt) }

abbrev position : ℕ → Position
position p = record { at = p % 2 ^ 28; small = mod-lt p (lit< tt) }

abbrev insert : (c : ℕ) → is_scalar c ≡ true → ℕ → Deed
insert c s p = deed.Insert (record { code = c; scalar = s }) (position p)

abbrev delete : ℕ → Deed
delete p = deed.Delete (position p)

abbrev event : ℕ → ℕ → List Name → Deed → NamedEvent
event a n ps d = record { name = called a n; deed = d; parents = ps }

abbrev spelled : List Character → List ℕ
spelled cs = map (λ c. c.code) cs

-- 1.0 inserts H, or A; another event comes after 1.0
abbrev just_h : NewestFirst
just_h = event 1 0 [] (insert 72 refl 0) ∷ []

abbrev just_a : NewestFirst
just_a = event 1 0 [] (insert 65 refl 0) ∷ []

abbrev next : ℕ → ℕ → Deed → NamedEvent
next a n d = event a n (called 1 0 ∷ []) d

-- neither author has seen the other's event
abbrev inserts_a : NamedEvent
inserts_a = event 1 5 [] (insert 65 refl 0)

abbrev inserts_b : NamedEvent
inserts_b = event 2 0 [] (insert 66 refl 0)

-- "abc" typed; one author deletes b and inserts X at 1, another inserts Y at 1 beside b
abbrev typed : NewestFirst
typed =
    event 2 0 (called 1 2 ∷ []) (insert 89 refl 1)
    ∷ event 1 4 (called 1 3 ∷ []) (insert 88 refl 1)
    ∷ event 1 3 (called 1 2 ∷ []) (delete 1)
    ∷ event 1 2 (called 1 1 ∷ []) (insert 99 refl 2)
    ∷ event 1 1 (called 1 0 ∷ []) (insert 98 refl 1)
    ∷ event 1 0 [] (insert 97 refl 0)
    ∷ []

pub record Examples : Type 0 where
  pub nothing : text author_first [] ≡ []
  pub one : spelled (text author_first just_h) ≡ codes "H"
  pub insert_at1 : spelled (text author_first (next 1 1 (insert 101 refl 1) ∷ just_h)) ≡ codes "He"
  pub delete_at0 : text author_first (next 1 1 (delete 0) ∷ just_h) ≡ []
  pub insert_at2 : placement_in author_first just_h (next 1 1 (insert 101 refl 2)) ≡ beyond
  pub delete_at1 : placement_in author_first just_h (next 1 1 (delete 1)) ≡ beyond
  pub by_author : spelled (text author_first (inserts_b ∷ inserts_a ∷ [])) ≡ codes "AB"
  pub by_number : spelled (text number_first (inserts_b ∷ inserts_a ∷ [])) ≡ codes "BA"
  -- B first: each edit is an insert at 0
  pub edits : (edit author_first [] inserts_b ≡ Insert 0) × (edit author_first (inserts_b ∷ []) inserts_a ≡ Insert 0)
  pub after_a : edit author_first (inserts_a ∷ []) inserts_b ≡ Insert 1
  pub other : spelled (text author_first (inserts_a ∷ inserts_b ∷ [])) ≡ codes "AB"
  -- H is struck, and the other author's e stays, now at 0
  pub behind_struck : spelled (text author_first (next 2 0 (insert 101 refl 1) ∷ next 1 1 (delete 0) ∷ just_h)) ≡ codes "e"
  pub moved_up : edit author_first (next 1 1 (delete 0) ∷ just_h) (next 2 0 (insert 101 refl 1)) ≡ Insert 0
  -- struck twice, the second time by no edit
  pub struck_twice : text author_first (next 2 0 (delete 0) ∷ next 1 1 (delete 0) ∷ just_a) ≡ []
  pub no_edit : edit author_first (next 1 1 (delete 0) ∷ just_a) (next 2 0 (delete 0)) ≡ Nothing
  -- X and Y are both left children of b, struck or not; were struck nodes skipped, X would go to c and the text be "aYXc"
  pub both_left : spelled (text author_first typed) ≡ codes "aXYc"
  pub before_x : spelled (text_at author_first typed (called 2 0 ∷ [])) ≡ codes "aYbc"
  -- such logs meet the premises of the theorems
  pub admissible : Admissible author_first typed
