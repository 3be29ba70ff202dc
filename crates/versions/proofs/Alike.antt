-- A version by numbers is the version by names of the same events.
use Rattle.std.proofs.Common.{◌≡◌, ℕ, ◌⊎◌, List, Some, refl, subst, inl, inr}
use Rattle.std.specs.List.{slice_get}
use Rattle.events.specs.declared.name.Name.{Name}
use Rattle.events.specs.Parts.{NamedEvent, StoredEvent}
use Rattle.fugue.specs.Names.{◌∈◌}
use Rattle.fugue.specs.Logs.{Behind, log_of, named_in}
use Rattle.fugue.proofs.Lists.{map_member}
use Rattle.versions.specs.Versions.{InVersion, head, parent}
use Rattle.versions.specs.Named.{names_of, VersionsAreAlike}
use Rattle.versions.proofs.Sets.{from_parents}
use Rattle.versions.proofs.Behind.{in_names, in_log, behind_parent, behind_more, behind_held, head_held}

reached : (es : List StoredEvent) (heads : List ℕ) {x : ℕ} → InVersion es heads x → (e : StoredEvent) → slice_get es x ≡ Some e → (e.name ∈ names_of es heads) ⊎ ((h : Name) × (h ∈ names_of es heads) × Behind (log_of es) h e.name)
reached es heads (head {x} h l) e at = inl (in_names es heads h.0 x e h.1 at)
reached es heads (parent {y} {x} i p) e at =
    let r = from_parents (slice_get es y) p.0 x p.1 in
    let d = named_in es r.0 in
    let own = in_log es y r.0 r.1 in
    let up = in_names es r.0.parents p.0 x e r.2 at in
    elim (reached es heads i r.0 r.1) [
      | inl m ↦ inr (r.0.name, m, behind_parent (log_of es) d e.name own up)
      | inr b ↦ inr (b.0, b.1, behind_more (log_of es) d e.name own up b.2 refl)
    ]

pub alike : VersionsAreAlike
alike es fit heads x e at = (
  (λ i. (map_member (λ (d : NamedEvent). d.name) (log_of es) (named_in es e) (in_log es x e at), reached es heads i e at)),
  (λ h. elim h.1 [
    | inl m ↦ back (head_held es fit heads e.name m)
    | inr b ↦
        let r = head_held es fit heads b.0 b.1 in
        back (behind_held es fit heads b.2 r.0 r.1 r.2 r.3 r.4)
  ]),
)
  where
    back : (m : ℕ) × (d : StoredEvent) × (slice_get es m ≡ Some d) × (d.name ≡ e.name) × InVersion es heads m → InVersion es heads x
    back r = subst (InVersion es heads) (fit.names r.0 x r.1 e r.2 at r.3) r.4
