-- The two sibling orders that are supplied.
use Rattle.std.specs.Prelude.{ℕ, Bool, cond, ◌==◌, nat_lt}
use Rattle.events.specs.declared.name.Name.{Name}

-- a pair of numbers comes before another by its first number, or by its second where the first are equal
abbrev pub pair_before : ℕ → ℕ → ℕ → ℕ → Bool
pair_before a b c d = cond (a == c) (nat_lt b d) (nat_lt a c)

-- compares authors, then numbers
abbrev pub author_first : Name → Name → Bool
author_first a b = pair_before a.author a.number b.author b.number

-- compares numbers, then authors
abbrev pub number_first : Name → Name → Bool
number_first a b = pair_before a.number a.author b.number b.author
