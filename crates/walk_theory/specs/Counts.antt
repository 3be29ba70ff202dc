-- The home by a count of what hangs at a place, and the place where nothing hangs at the home.
use Rattle.std.specs.Prelude.{◌≡◌, ℕ, zero, suc, ◌+◌, ◌≤◌, Bool, true, false, not, ◌&&◌, List, [], ◌∷◌, length, filter}
use Rattle.events.specs.declared.name.Name.{Name}
use Rattle.fugue.specs.Names.{Ordered, Rising}
use Rattle.fugue.specs.Tree.{Attachment, left_of, same_attachment, Node, Tree, sequence, only, ClosedPart, has_node, Grown}
use Rattle.walk_theory.specs.Origins.{Origin, behind, front}
use Rattle.walk_theory.specs.Search.{until, top_outside, top_precedes, top_follows, home, place_for}

-- how many of a list hang at a place
abbrev pub hung : (Name → Bool) → Attachment → List Node → ℕ
hung v p s = length (filter (λ n. v n.name && same_attachment n.attachment p) s)

abbrev pub all : Name → Bool
all y = true

-- where the new node hangs, by how many of the version hang at its left origin's right
abbrev pub home_by_count : ℕ → Attachment → List Node → Attachment
home_by_count zero p f = p
home_by_count (suc k) p [] = p
home_by_count (suc k) p (n ∷ ns) = left_of n.name

-- how many of the run come before the new node, where nothing hangs at its home
abbrev pub where_free : ℕ → ℕ → List Node → ℕ
where_free zero r f = 0
where_free (suc k) r [] = 0
where_free (suc k) r (n ∷ ns) = r

pub record Quickly (before : Name → Name → Bool) (d : ℕ) (t : Tree) (v : Name → Bool) (p : Attachment) (x : Name) : Type 0 where
  pub homes : home d (sequence before t) p (only v (behind p (sequence before t))) ≡ home_by_count (hung v p (sequence before t)) p (only v (behind p (sequence before t)))
  pub alone : hung all (home_by_count (hung v p (sequence before t)) p (only v (behind p (sequence before t)))) (sequence before t) ≡ 0
      → place_for before d (sequence before t) v p x
      ≡ length (front p (sequence before t)) + where_free (hung v p (sequence before t)) (length (until v (behind p (sequence before t)))) (only v (behind p (sequence before t)))
  -- along the run the scan's test turns once, so it can be found by halving
  pub turns_up : home d (sequence before t) p (only v (behind p (sequence before t))) ≡ p
      → Rising (λ m n. top_precedes before x (top_outside d (sequence before t) v p n.name) ≡ true → top_precedes before x (top_outside d (sequence before t) v p m.name) ≡ true) (until v (behind p (sequence before t)))
  pub turns_down : (z : Node) (zs : List Node) → only v (behind p (sequence before t)) ≡ z ∷ zs → home d (sequence before t) p (only v (behind p (sequence before t))) ≡ left_of z.name
      → Rising (λ m n. not (top_follows before x (top_outside d (sequence before t) v (left_of z.name) n.name)) ≡ true → not (top_follows before x (top_outside d (sequence before t) v (left_of z.name) m.name)) ≡ true)
      (until v (behind p (sequence before t)))

abbrev pub CountsSuffice : Type 0
CountsSuffice =
    (before : Name → Name → Bool) → Ordered before → (t : Tree) → Grown t → (v : Name → Bool) → ClosedPart v t → (p : Attachment) → Origin (λ y. has_node t y && v y) p
    → (x : Name) → has_node t x ≡ false → (d : ℕ) → length t ≤ d → Quickly before d t v p x
