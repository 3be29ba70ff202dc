-- Lists that are cut where a test turns.
use Rattle.std.proofs.Common.{◌≡◌, ◌+◌, ◌-◌, Bool, true, false, not, List, [], ◌∷◌, ◌++◌, reverse, length, take, drop, filter, sym, refl, ap, ◌∙◌, subst, ap₂, inl, inr, append-nil, arith, length-append}
use mathlib.Core.List.{reverse-append}
use lib.ListN.{length-reverse}
use Rattle.std.specs.List.{prefix_len, suffix_len, AllByRecursion}
use Rattle.std.proofs.lemmas.Bool.{both_ways, cases_Bool}
use Rattle.std.proofs.lemmas.List.Elements.{filter-append}
use Rattle.std.proofs.ByRecursion.{All-weaker, All-append}
use Rattle.std.proofs.lemmas.Bool.{false_from_ne_true}
use Rattle.std.proofs.lemmas.List.{take_at, drop_at}
use Rattle.fugue.specs.Names.{Rising}
use Rattle.fugue.proofs.Lists.{all_both, all_left, all_right, kept_nothing, kept_whole}

module _ {X : Type 0} where
  module _ (R : X → X → Type 0) where
    pub rising_left : (ls bs : List X) → Rising R (ls ++ bs) → Rising R ls
    rising_left [] bs h = tt
    rising_left (a ∷ ls) bs h = (all_left (R a) ls bs h.0, rising_left ls bs h.1)

  module _ (B : X → Bool) where
    abbrev pub Falls : List X → Type 0
    Falls l = Rising (λ m n. B n ≡ true → B m ≡ true) l

    -- a test that only turns from true to false cuts a list
    pub record Parted (l : List X) : Type 0 where
      pub low : List X
      pub high : List X
      pub is : l ≡ low ++ high
      pub lows : AllByRecursion (λ n. B n ≡ true) low
      pub highs : AllByRecursion (λ n. B n ≡ false) high

    not_after : (m n : X) → (B n ≡ true → B m ≡ true) → B m ≡ false → B n ≡ false
    not_after m n h e = false_from_ne_true (B n) (λ f. both_ways _ e (h f))

    pub all_high : (n : X) (l : List X) → Falls (n ∷ l) → B n ≡ false → AllByRecursion (λ m. B m ≡ false) (n ∷ l)
    all_high n l h e = (e, All-weaker _ _ (λ m k. not_after n m k e) l h.0)

    pub all_low : (us : List X) (n : X) (bs : List X) → Falls (us ++ n ∷ bs) → B n ≡ true → AllByRecursion (λ m. B m ≡ true) (us ++ n ∷ [])
    all_low [] n bs h e = (e, tt)
    all_low (u ∷ us) n bs h e = ((all_right _ us (n ∷ bs) h.0).0 e, all_low us n bs h.1 e)

    pub parted : (l : List X) → Falls l → Parted l
    parted [] h = record { low = []; high = []; is = refl; lows = tt; highs = tt }
    parted (n ∷ l) h = elim (cases_Bool (B n)) [
      | inl e ↦ let r = parted l h.1 in record { low = n ∷ r.low; high = r.high; is = ap (λ z. n ∷ z) r.is; lows = (e, r.lows); highs = r.highs }
      | inr e ↦ record { low = []; high = n ∷ l; is = refl; lows = tt; highs = all_high n l h e }
    ]

    pub leading_front : (ls l : List X) → AllByRecursion (λ n. B n ≡ true) ls → prefix_len B (ls ++ l) ≡ length ls + prefix_len B l
    leading_front [] l h = omega arith
    leading_front (a ∷ ls) l h = let ih = leading_front ls l h.1 in rw h.0 (omega (arith, ih))

    pub leading_none : (bs : List X) → AllByRecursion (λ n. B n ≡ false) bs → prefix_len B bs ≡ 0
    leading_none [] h = refl
    leading_none (b ∷ bs) h = rw h.0

    pub leading_stop : (l bs : List X) → AllByRecursion (λ n. B n ≡ false) bs → prefix_len B (l ++ bs) ≡ prefix_len B l
    leading_stop [] bs h = leading_none bs h
    leading_stop (a ∷ l) bs h = let ih = leading_stop l bs h in rw ih

    -- the test passes up to the cut
    leading_cut : (ls bs : List X) → AllByRecursion (λ n. B n ≡ true) ls → AllByRecursion (λ n. B n ≡ false) bs → prefix_len B (ls ++ bs) ≡ length ls
    leading_cut ls bs h k = let a = leading_front ls bs h in let z = leading_none bs k in omega (arith, a, z)

    kept_parts : (ls bs : List X) → AllByRecursion (λ n. B n ≡ true) ls → AllByRecursion (λ n. B n ≡ false) bs → filter B (ls ++ bs) ≡ ls
    kept_parts ls bs h k = filter-append B ls bs ∙ ap₂ ◌++◌ (kept_whole B ls h) (kept_nothing B bs k) ∙ append-nil ls

    kept_rest : (ls bs : List X) → AllByRecursion (λ n. B n ≡ true) ls → AllByRecursion (λ n. B n ≡ false) bs → filter (λ n. not (B n)) (ls ++ bs) ≡ bs
    kept_rest ls bs h k =
        filter-append (λ n. not (B n)) ls bs
        ∙ ap₂ ◌++◌ (kept_nothing (λ n. not (B n)) ls (All-weaker _ _ (λ n e. rw e) ls h)) (kept_whole (λ n. not (B n)) bs (All-weaker _ _ (λ n e. rw e) bs k))

    -- both parts, by the count
    pub kept_take : (l : List X) → Falls l → (filter B l ≡ take (prefix_len B l) l) × (filter (λ n. not (B n)) l ≡ drop (prefix_len B l) l)
    kept_take l h =
        let r = parted l h in
        let k = leading_cut r.low r.high r.lows r.highs in
        rw (r.is, k) (
          kept_parts r.low r.high r.lows r.highs ∙ sym (take_at r.low r.high (length r.low) refl),
          kept_rest r.low r.high r.lows r.highs ∙ sym (drop_at r.low r.high (length r.low) refl),
        )

  pub leading_like : (B K : X → Bool) (l : List X) → AllByRecursion (λ n. B n ≡ K n) l → prefix_len B l ≡ prefix_len K l
  leading_like B K [] h = refl
  leading_like B K (n ∷ l) h = let ih = leading_like B K l h.1 in rw (h.0, ih)

  pub falls_like : (B K : X → Bool) (l : List X) → AllByRecursion (λ n. B n ≡ K n) l → Falls B l → Falls K l
  falls_like B K [] h f = tt
  falls_like B K (a ∷ l) h f = (All-weaker _ _ (λ n k t. sym h.0 ∙ k.1 (k.0 ∙ t)) l (all_both _ _ l h.1 f.0), falls_like B K l h.1 f.1)

  pub all_reverse : (P : X → Type 0) (l : List X) → AllByRecursion P l → AllByRecursion P (reverse l)
  all_reverse P [] h = tt
  all_reverse P (a ∷ l) h = subst (AllByRecursion P) (sym (reverse-append (a ∷ []) l)) (All-append P (reverse l) (a ∷ []) (all_reverse P l h.1) (h.0, tt))

  -- home_by_count from the end
  pub from_end : (B K : X → Bool) (l : List X) → Falls B l → AllByRecursion (λ n. not (B n) ≡ K n) l → length l - suffix_len K l ≡ prefix_len B l
  from_end B K l h k =
      let r = parted B l h in
      let a : AllByRecursion (λ n. not (B n) ≡ K n) (r.low ++ r.high) = rw r.is at k in
      let lo : AllByRecursion (λ n. K n ≡ false) r.low = All-weaker _ _ (λ n e. sym e.1 ∙ rw e.0) r.low (all_both _ _ r.low r.lows (all_left _ r.low r.high a)) in
      let hi : AllByRecursion (λ n. K n ≡ true) r.high = All-weaker _ _ (λ n e. sym e.1 ∙ rw e.0) r.high (all_both _ _ r.high r.highs (all_right _ r.low r.high a)) in
      let e1 : suffix_len K (r.low ++ r.high) ≡ length r.high
      = ap (prefix_len K) (reverse-append r.low r.high)
      ∙ leading_cut K (reverse r.high) (reverse r.low) (all_reverse _ r.high hi) (all_reverse _ r.low lo)
      ∙ length-reverse r.high in
      rw (r.is, e1, leading_cut B r.low r.high r.lows r.highs, length-append r.low r.high) (omega arith)
