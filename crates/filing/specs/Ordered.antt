-- The type numbers and the words of the two sibling orders, and which order a file's first byte names.
use Rattle.std.specs.Prelude.{◌≡◌, ◌≢◌, ℕ, ◌%◌, Bool, true, false, List, [], ◌∷◌, ◌==◌, Result, MatchResult, codes}
use Rattle.filing.specs.declared.order.Order.{Order}
use Rattle.filing.specs.declared.order.UnknownOrder.{UnknownOrder}

abbrev pub type_of : Order → ℕ
type_of Order.Author = 0
type_of Order.Number = 1

abbrev pub order_by : Bool → Order
order_by true = Order.Number
order_by false = Order.Author

-- the low four bits of the first byte are the type: number-first where it is 1, else author-first
abbrev pub own_order : List ℕ → Order
own_order [] = Order.Author
own_order (b ∷ bs) = order_by (b % 16 == 1)

abbrev pub word_of : Order → List ℕ
word_of Order.Author = codes "author"
word_of Order.Number = codes "number"

-- a word is read as the order that it names, and refused if it names none
abbrev pub OrderNamed : List ℕ → Result Order UnknownOrder → Type 0
OrderNamed word r = MatchResult r (λ o. word ≡ word_of o) (λ _. (o : Order) → word ≢ word_of o)
