-- A trim, entry by entry.
use Rattle.std.proofs.Common.{◌≡◌, ℕ, suc, ◌+◌, ◌<◌, ◌≤◌, Bool, true, false, cond, List, [], ◌∷◌, ◌++◌, length, get_or, take, drop, set, filter, sym, refl, ap, ap₂, ◌∙◌, subst, append_assoc, arith}
use Rattle.std.proofs.lemmas.List.{take_all, drop_all, take_more_set, drop-set-lt, drop_more, append-nil}
use Rattle.std.specs.List.Retain.{RetainsInTurn}
use Rattle.std.proofs.lemmas.List.Sums.{length-filter, count_by-le-length}
use Rattle.indexes.specs.declared.entry.Entry.{Entry}
use Rattle.indexes.specs.declared.entry.Attachment.{Attachment}
use Rattle.indexes.specs.declared.entry.Attachment.TheVariants.{Root, RightOf}
use Rattle.indexes.specs.Entries.{is_present, renewed}
use Rattle.indexes.specs.Questions.{characters}
use Rattle.indexes.specs.Changes.{chained, trimmed}
use Rattle.indexes.specs.Laws.{Distinct}
use Rattle.indexes.proofs.Apart.{apart, distinct, apart_kept}

-- where the next entry of a chain hangs
abbrev pub end : Attachment → List Entry → Attachment
end a [] = a
end a (e ∷ es) = end (RightOf e.character) es

pub end_push : (a : Attachment) (es : List Entry) (e : Entry) → end a (es ++ e ∷ []) ≡ RightOf e.character
end_push a [] e = refl
end_push a (x ∷ es) e = end_push (RightOf x.character) es e

pub chained_push : (a : Attachment) (es : List Entry) (e : Entry) → chained a (es ++ e ∷ []) ≡ chained a es ++ renewed (end a es) e ∷ []
chained_push a [] e = refl
chained_push a (x ∷ es) e = ap (λ ys. renewed a x ∷ ys) (chained_push (RightOf x.character) es e)

pub characters_chained : (a : Attachment) (es : List Entry) → characters (chained a es) ≡ characters es
characters_chained a [] = refl
characters_chained a (e ∷ es) = ap (λ cs. e.character ∷ cs) (characters_chained (RightOf e.character) es)

pub length_chained : (a : Attachment) (es : List Entry) → length (chained a es) ≡ length es
length_chained a [] = refl
length_chained a (e ∷ es) = ap suc (length_chained (RightOf e.character) es)

-- one more entry renewed, with the next to hang on its right
pub chain_more : (xs : List Entry) (i : ℕ) (a : Attachment) (e d : Entry) → i < length xs → e ≡ renewed a (get_or xs i d) → take (i + 1) (set xs i e) ++ chained (RightOf e.character) (drop (i + 1) (set xs i e)) ≡ take i xs ++ chained a (drop i xs)
chain_more xs i a e d within is =
    rw (take_more_set xs i e within, drop-set-lt (i + 1) xs i e (omega arith), drop_more xs i d within, is) (append_assoc (take i xs) (renewed a (get_or xs i d) ∷ []) (chained (RightOf (get_or xs i d).character) (drop (i + 1) xs)))

-- all entries renewed
pub chain_done : (xs zs : List Entry) (i : ℕ) (a : Attachment) → length xs ≤ i → take i xs ++ chained a (drop i xs) ≡ zs → xs ≡ zs
chain_done xs zs i a all is =
    let whole : take i xs ++ chained a (drop i xs) ≡ xs = rw (take_all i xs all, drop_all i xs all) (append-nil xs) in
    sym whole ∙ is

-- an entry that is present stays, renewed at a, and the next hangs on its right; another goes, and a stays
pub record Renews (a : Attachment) (x : Entry) (stays : Bool) (next : Attachment) (y : Entry) : Type 0 where
  pub present : stays ≡ is_present x
  pub hangs : next ≡ cond stays (RightOf x.character) a
  pub renews : y ≡ cond stays (renewed a x) x

module _ {F : Type 0} (R : F → Entry → Bool → F → Entry → Type 0) (at : F → Attachment) (each : (f : F) (x : Entry) (b : Bool) (g : F) (y : Entry) → R f x b g y → Renews (at f) x b (at g) y) where
  link : (b : Bool) (a next : Attachment) (x y : Entry) (xs zs : List Entry) → next ≡ cond b (RightOf x.character) a → y ≡ cond b (renewed a x) x → zs ≡ chained next xs → cond b (y ∷ zs) zs ≡ chained a (cond b (x ∷ xs) xs)
  link true a next x y xs zs hangs renews rest = ap₂ (λ (e : Entry) (es : List Entry). e ∷ es) renews (rest ∙ ap (λ n. chained n xs) hangs)
  link false a next x y xs zs hangs renews rest = rest ∙ ap (λ n. chained n xs) hangs

  -- what is kept of a list whose entries are renewed in turn
  pub chain_kept : (f : F) (xs ys : List Entry) → RetainsInTurn R f xs ys → ys ≡ chained (at f) (filter is_present xs)
  chain_kept f [] ys h = h
  chain_kept f (x ∷ xs) ys h =
      let r = each f x h.0 h.1 h.2 h.3 in
      let rest = chain_kept h.1 xs h.4 h.5 in
      h.6 ∙ link h.0 (at f) (at h.1) x h.2 (filter is_present xs) h.4 r.hangs r.renews rest ∙ ap (λ b. chained (at f) (cond b (x ∷ filter is_present xs) (filter is_present xs))) r.present

pub distinct_trimmed : (es : List Entry) → Distinct (characters es) → Distinct (characters (trimmed es))
distinct_trimmed es d =
    let kept = filter is_present es in
    subst Distinct (sym (characters_chained Root kept)) (distinct (characters kept) (apart_kept is_present es (apart (characters es) d)))

pub length_trimmed : (es : List Entry) → length (trimmed es) ≤ length es
length_trimmed es =
    omega (arith, length_chained Root (filter is_present es), length-filter is_present es, count_by-le-length is_present es)

-- what a trim asks: no character twice, and no more entries
pub ruleset trims = (distinct_trimmed, length_trimmed)
