-- Marking one event after another, as far as a list of answers goes.
use Rattle.std.proofs.Common.{◌≡◌, ℕ, ◌+◌, ◌<◌, ◌≤◌, ◌⊎◌, ◌↔◌, List, length, Some, None, Option, sym, refl, ap, ◌∙◌, subst, inl, inr, arith}
use Rattle.std.specs.List.{slice_get}
use Rattle.std.specs.Option.{option_map, option_flatten}
use Rattle.std.proofs.lemmas.Bool.{cases_eq}
use Rattle.std.proofs.lemmas.Option.{slice_get_within, none-some}
use Rattle.events.specs.Parts.{StoredEvent}
use Rattle.events.specs.WellFormed.{WellFormed}
use Rattle.stores.specs.Questions.{parents_at, parent_at}
use Rattle.versions.specs.declared.counters.Counters.{Counters}
use Rattle.versions.specs.Versions.{Head, Parent}
use Rattle.versions.specs.Searches.{marks, Listed, Noted, Among}
use Rattle.versions.specs.Difference.{Known}
use Rattle.versions.proofs.Joins.{spread_more}
use Rattle.versions.proofs.Reached.{parent_less}

module _ {m : ℕ} {w : List ℕ} {s : Counters} where
  pub noted_none : (f : ℕ → Option ℕ) → Listed w s → Noted (Among f 0) m w s w s
  noted_none f l = record {
    listed = l;
    room = refl;
    found = (refl, refl);
    grows = omega arith;
    moved = refl;
    spread = record {
      keeps = λ other x low h. h;
      takes = λ other x low h. absurd (omega (arith, h.1));
      from = λ other x low h. inl h;
      others = λ x n. refl;
    };
    queued = λ bound low q. q;
    kept = λ k a b. refl;
  }

  pub noted_step : {v u : List ℕ} {r t : Counters} (f : ℕ → Option ℕ) (k e : ℕ) → f k ≡ Some e → Noted (Among f k) m w s v r → Noted (λ x. x ≡ e) m v r u t → Noted (Among f (k + 1)) m w s u t
  noted_step {v} {u} {r} {t} f k e at a b = record {
    listed = b.listed;
    room = b.room ∙ a.room;
    found = (b.found.0 ∙ a.found.0, b.found.1 ∙ a.found.1);
    grows = omega (arith, a.grows, b.grows);
    moved = omega (arith, a.moved, b.moved);
    spread = spread_more e m (marks w s) (marks v r) (marks u t) further own back a.spread b.spread;
    queued = λ bound low q. b.queued bound (λ x z. subst (λ y. y < bound) (sym z) (low e own)) (a.queued bound (λ x h. low x (further x h)) q);
    kept = λ i c d. b.kept i c (omega (arith, a.room)) ∙ a.kept i (omega (arith, b.grows)) d;
  }
    where
      further : (x : ℕ) → Among f k x → Among f (k + 1) x
      further x h = (h.0, omega (arith, h.1), h.2)

      own : Among f (k + 1) e
      own = (k, omega arith, at)

      back : (x : ℕ) → Among f (k + 1) x → Among f k x ⊎ (x ≡ e)
      back x h = elim (cases_eq h.0 k) [
        | inl q ↦ let own = h.2 in inr cc
        | inr n ↦ inl (h.0, omega (arith, h.1), h.2)
      ]

  -- the same events, told otherwise
  pub noted_same : {v : List ℕ} {r : Counters} (P Q : ℕ → Type 0) → ((x : ℕ) → P x ↔ Q x) → Noted P m w s v r → Noted Q m w s v r
  noted_same P Q same a = record {
    listed = a.listed;
    room = a.room;
    found = a.found;
    grows = a.grows;
    moved = a.moved;
    spread = record {
      keeps = a.spread.keeps;
      takes = λ other x low h. a.spread.takes other x low ((same x).1 h);
      from = λ other x low h. elim (a.spread.from other x low h) [ inl g ↦ inl g | inr g ↦ inr ((same x).0 g.0, g.1) ];
      others = λ x n. a.spread.others x (λ p. n ((same x).0 p));
    };
    queued = λ bound low q. a.queued bound (λ x p. low x ((same x).0 p)) q;
    kept = a.kept;
  }

  pub noted_skip : {v : List ℕ} {r : Counters} (f : ℕ → Option ℕ) (k : ℕ) → f k ≡ None → Noted (Among f k) m w s v r → Noted (Among f (k + 1)) m w s v r
  noted_skip f k at a = noted_same (Among f k) (Among f (k + 1)) (λ x. (
    (λ h. (h.0, omega (arith, h.1), h.2)),
    (λ h. (h.0, elim (cases_eq h.0 k) [ inl q ↦ absurd (none-some _ (sym at ∙ ap f (sym q) ∙ h.2)) | inr n ↦ omega (arith, h.1) ], h.2)),
  )) a

pub all_heads : (xs : List ℕ) (k : ℕ) → length xs ≤ k → (x : ℕ) → Among (slice_get xs) k x ↔ Head xs x
all_heads xs k long x = ((λ h. (h.0, h.2)), (λ h. (h.0, omega (arith, slice_get_within xs h.0 x h.1), h.1)))

pub from_parents : (o : Option StoredEvent) (k p : ℕ) → option_flatten (option_map (λ ps. slice_get ps k) (option_map (λ (e : StoredEvent). e.parents) o)) ≡ Some p → (e : StoredEvent) × (o ≡ Some e) × (slice_get e.parents k ≡ Some p)
from_parents None k p h = cc
from_parents (Some e) k p h = (e, refl, h)

-- an event has four parents at most
pub all_parents : (es : List StoredEvent) → WellFormed es → (y k : ℕ) → 4 ≤ k → (x : ℕ) → Among (parent_at es y) k x ↔ Parent es y x
all_parents es fit y k four x = (
  (λ h. (h.0, h.2)),
  (λ h.
      let e = from_parents (slice_get es y) h.0 x h.1 in
      (h.0, omega (arith, slice_get_within e.0.parents h.0 x e.2, (fit.parents y e.0 e.1).few), h.1)),
)

-- the parents of an event, as the list of its parents
pub parents_are : (es : List StoredEvent) (y : ℕ) (xs : List ℕ) → Some xs ≡ parents_at es y → (x : ℕ) → Head xs x ↔ Parent es y x
parents_are es y xs is x = ((λ h. (h.0, sym (at h.0) ∙ h.1)), (λ h. (h.0, at h.0 ∙ h.1)))
  where
    at : (k : ℕ) → slice_get xs k ≡ parent_at es y k
    at k = ap (λ o. option_flatten (option_map (λ ps. slice_get ps k) o)) is

-- each of them is an earlier event
pub parents_known : (es : List StoredEvent) → WellFormed es → (y : ℕ) (xs : List ℕ) → Some xs ≡ parents_at es y → Known y xs
parents_known es fit y xs is x h = parent_less es fit y x ((parents_are es y xs is x).0 h)
