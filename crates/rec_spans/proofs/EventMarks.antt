-- Which begins and ends are among the marks of an event.
use Rattle.std.proofs.Common.{◌≡◌, ◌⊎◌, ◌↔◌, Bool, true, false, List, []}
use Rattle.std.proofs.Common.{◌∷◌, ◌++◌, ℤ, refl, sym, ◌∙◌, ap, inl, inr}
use Rattle.rec_spans.proofs.PlacesOfHistory.{Has-of_key}
use Rattle.rec_spans.specs.declared.spans.Phase.TheVariants.{Begin, End}
use Rattle.rec_spans.specs.declared.spans.Phase.{Phase}
use Rattle.rec_spans.specs.declared.spans.Span.{Span}
use Rattle.rec_spans.specs.Past.Change.{Start, Stop, Pause, Resume, Other}
use Rattle.rec_spans.specs.Past.{Change, Mark, change_marks, mark, marks, of_key}
use Rattle.rec_spans.specs.Positions.{Has}

-- what is in two lists, one after the other
pub Has-append : {X : Type 0} (xs ys : List X) (x : X) → Has (xs ++ ys) x ↔ (Has xs x ⊎ Has ys x)
Has-append [] ys x = ((λ h. inr h), (λ h. elim h [ inl w ↦ absurd w | inr w ↦ w ]))
Has-append (y ∷ xs) ys x =
    let ih = Has-append xs ys x in (
      (λ h. elim h [
        | inl e ↦ inl (inl e)
        | inr w ↦ elim (ih.0 w) [ inl v ↦ inl (inr v) | inr v ↦ inr v ]
      ]),
      (λ h. elim h [
        | inl w ↦ elim w [ inl e ↦ inl e | inr v ↦ inr (ih.1 (inl v)) ]
        | inr w ↦ inr (ih.1 (inr w))
      ]),
    )

-- a mark among those of spans is that of one of them
pub marks-to : (p q : Phase) (u t : ℤ) (spans : List Span) (s : Span)
    → Has (marks p u spans) (mark q t s) → (p ≡ q) × (t ≡ u) × Has spans s
marks-to p q u t [] s h = absurd h
marks-to p q u t (x ∷ xs) s h =
    elim h [
      | inl e ↦ (
        ap (λ (m : Mark). m.phase) e,
        sym (ap (λ (m : Mark). m.at) e),
        inl (ap (λ (m : Mark). m.span) e),
      )
      | inr w ↦ let r = marks-to p q u t xs s w in (r.0, r.1, inr r.2)
    ]

-- each of these spans has its mark
pub marks-from : (p : Phase) (u t : ℤ) (spans : List Span) (s : Span) → t ≡ u → Has spans s
    → Has (marks p u spans) (mark p t s)
marks-from p u t [] s same h = absurd h
marks-from p u t (x ∷ xs) s same h =
    elim h [
      | inl e ↦ inl (ap (λ v. mark p u v) e ∙ ap (λ v. mark p v s) (sym same))
      | inr w ↦ inr (marks-from p u t xs s same w)
    ]

-- an event begins a span, and ends one, by its change, the pause and what is open before it
abbrev pub BeginsIf : Bool → Change → List Span → Span → Type 0
BeginsIf p (Start x) spans s = x ≡ s
BeginsIf p (Stop k) spans s = (p ≡ true) × Has spans s × (s.key ≡ k)
BeginsIf p Pause spans s = ⊥
BeginsIf p Resume spans s = (p ≡ true) × Has spans s
BeginsIf p Other spans s = ⊥

abbrev pub EndsIf : Bool → Change → List Span → Span → Type 0
EndsIf p (Start x) spans s = (p ≡ true) × (x ≡ s)
EndsIf p (Stop k) spans s = Has spans s × (s.key ≡ k)
EndsIf p Pause spans s = (p ≡ false) × Has spans s
EndsIf p Resume spans s = ⊥
EndsIf p Other spans s = ⊥

wrong : {P : Type 0} → (Begin ≡ End) → P
wrong e = cc

-- which begins are among the marks of an event
pub begins-in_marks : (p : Bool) (c : Change) (spans : List Span) (u t : ℤ) (s : Span)
    → Has (change_marks p spans u c) (mark Begin t s) ↔ ((t ≡ u) × BeginsIf p c spans s)
begins-in_marks true (Start x) spans u t s = (
  (λ h. elim h [
    | inl e ↦ (sym (ap (λ (m : Mark). m.at) e), ap (λ (m : Mark). m.span) e)
    | inr w ↦ elim w [ inl e ↦ wrong (sym (ap (λ (m : Mark). m.phase) e)) | inr v ↦ absurd v ]
  ]),
  (λ h. inl (ap (λ v. mark Begin u v) h.1 ∙ ap (λ v. mark Begin v s) (sym h.0))),
)
begins-in_marks false (Start x) spans u t s = (
  (λ h. elim h [
    | inl e ↦ (sym (ap (λ (m : Mark). m.at) e), ap (λ (m : Mark). m.span) e)
    | inr v ↦ absurd v
  ]),
  (λ h. inl (ap (λ v. mark Begin u v) h.1 ∙ ap (λ v. mark Begin v s) (sym h.0))),
)
begins-in_marks true (Stop k) spans u t s =
    let a =
    Has-append (marks Begin u (of_key k spans)) (marks End u (of_key k spans)) (mark Begin t s) in
    let f = Has-of_key k s spans in (
      (λ h. elim (a.0 h) [
        | inl w ↦ (let r = marks-to Begin Begin u t (of_key k spans) s w in
            (r.1, (refl, (f.0 r.2).0, (f.0 r.2).1)))
        | inr w ↦ wrong (sym (marks-to End Begin u t (of_key k spans) s w).0)
      ]),
      (λ h. a.1 (inl (marks-from Begin u t (of_key k spans) s h.0 (f.1 (h.1.1, h.1.2))))),
    )
begins-in_marks false (Stop k) spans u t s =
    ((λ h. wrong (sym (marks-to End Begin u t (of_key k spans) s h).0)), (λ h. cc (h.1.0)))
begins-in_marks true Pause spans u t s = ((λ h. absurd h), (λ h. absurd h.1))
begins-in_marks false Pause spans u t s =
    ((λ h. wrong (sym (marks-to End Begin u t spans s h).0)), (λ h. absurd h.1))
begins-in_marks true Resume spans u t s = (
  (λ h. let r = marks-to Begin Begin u t spans s h in (r.1, (refl, r.2))),
  (λ h. marks-from Begin u t spans s h.0 h.1.1),
)
begins-in_marks false Resume spans u t s = ((λ h. absurd h), (λ h. cc (h.1.0)))
begins-in_marks p Other spans u t s = ((λ h. absurd h), (λ h. absurd h.1))

-- which ends are among the marks of an event
pub ends-in_marks : (p : Bool) (c : Change) (spans : List Span) (u t : ℤ) (s : Span)
    → Has (change_marks p spans u c) (mark End t s) ↔ ((t ≡ u) × EndsIf p c spans s)
ends-in_marks true (Start x) spans u t s = (
  (λ h. elim h [
    | inl e ↦ wrong (ap (λ (m : Mark). m.phase) e)
    | inr w ↦ elim w [
      | inl e ↦ (sym (ap (λ (m : Mark). m.at) e), (refl, ap (λ (m : Mark). m.span) e))
      | inr v ↦ absurd v
    ]
  ]),
  (λ h. inr (inl (ap (λ v. mark End u v) h.1.1 ∙ ap (λ v. mark End v s) (sym h.0)))),
)
ends-in_marks false (Start x) spans u t s = (
  (λ h. elim h [ inl e ↦ wrong (ap (λ (m : Mark). m.phase) e) | inr v ↦ absurd v ]),
  (λ h. cc (h.1.0)),
)
ends-in_marks true (Stop k) spans u t s =
    let a =
    Has-append (marks Begin u (of_key k spans)) (marks End u (of_key k spans)) (mark End t s) in
    let f = Has-of_key k s spans in (
      (λ h. elim (a.0 h) [
        | inl w ↦ wrong (marks-to Begin End u t (of_key k spans) s w).0
        | inr w ↦
            (let r = marks-to End End u t (of_key k spans) s w in (r.1, ((f.0 r.2).0, (f.0 r.2).1)))
      ]),
      (λ h. a.1 (inr (marks-from End u t (of_key k spans) s h.0 (f.1 (h.1.0, h.1.1))))),
    )
ends-in_marks false (Stop k) spans u t s =
    let f = Has-of_key k s spans in (
      (λ h. let r = marks-to End End u t (of_key k spans) s h in (r.1, ((f.0 r.2).0, (f.0 r.2).1))),
      (λ h. marks-from End u t (of_key k spans) s h.0 (f.1 (h.1.0, h.1.1))),
    )
ends-in_marks true Pause spans u t s = ((λ h. absurd h), (λ h. cc (h.1.0)))
ends-in_marks false Pause spans u t s = (
  (λ h. let r = marks-to End End u t spans s h in (r.1, (refl, r.2))),
  (λ h. marks-from End u t spans s h.0 h.1.1),
)
ends-in_marks true Resume spans u t s =
    ((λ h. wrong (marks-to Begin End u t spans s h).0), (λ h. absurd h.1))
ends-in_marks false Resume spans u t s = ((λ h. absurd h), (λ h. absurd h.1))
ends-in_marks p Other spans u t s = ((λ h. absurd h), (λ h. absurd h.1))
