-- The arrows that are read of a trace pair.
use Rattle.std.proofs.Common.{◌≡◌, inl, inr, ℕ, true, false, List, [], ◌∷◌}
use Rattle.std.proofs.Common.{◌++◌, map, None, Some, refl, sym, ap, ◌∙◌, subst}
use Rattle.std.proofs.lemmas.List.Elements.{filter-append}
use Rattle.std.proofs.lemmas.List.{map-append}
use Rattle.std.specs.List.{flat_map}
use Rattle.std.specs.Prelude.{bytes_eq, codes, filter}
use Rattle.semver.specs.Parse.{Parts}
use Rattle.rec_events.specs.declared.instances.OwnedTestInstanceId.{OwnedTestInstanceId}
use Rattle.rec_trace_events.specs.ReadEvents.{ReadEvent}
use Rattle.rec_spans.specs.declared.settings.ChromeTraceGroupBy.{ChromeTraceGroupBy}
use Rattle.rec_spans.specs.declared.spans.Phase.TheVariants.{Begin, End}
use Rattle.rec_spans.specs.declared.spans.Phase.{Phase}
use Rattle.rec_spans.specs.Plain.{PlainEvent}
use Rattle.rec_spans.specs.Positions.{Has}
use Rattle.rec_spans.specs.Refusals.{events_refusal}
use Rattle.rec_trace.proofs.Arrows.{arrows-pair}
use Rattle.rec_trace.proofs.ReadEvents.{events-drawn}
use Rattle.rec_trace.specs.Arrows.ArrowEnd.{Starts, Finishes}
use Rattle.rec_trace.specs.Arrows.{ArrowEnd, ArrowsPair, arrow_end, arrow_ends}
use Rattle.rec_trace.specs.Drawn.Drawn.{Slice, ProcessNamed, RowNamed, Running, Results}
use Rattle.rec_trace.specs.Drawn.Drawn.{RunMarked, Slow, ArrowStarts, ArrowFinishes}
use Rattle.rec_trace.specs.Drawn.{Drawn, all_events}
use Rattle.rec_trace.specs.Histories.{trace_drawn}
use Rattle.rec_trace.specs.ReadArrows.{ReadArrowsPair, ReadEnd, arrows_read, ends_read}
use Rattle.rec_trace.specs.ReadArrows.{finishing, is_arrow, read_end, starting}
use Rattle.rec_trace.specs.ReadDrawn.{all_read, drawn_arrow, phase_text, read_drawn}

-- ---- which they are

abbrev end_of : ReadEvent → ReadEnd
end_of e = record { phase = e.phase; id = e.id }

-- the begin or the end of a slice is none
slice-none : (p : Phase) → bytes_eq (phase_text p) (codes "s") ≡ false
slice-none Begin = refl
slice-none End = refl

slice-none_either : (p : Phase) → bytes_eq (phase_text p) (codes "f") ≡ false
slice-none_either Begin = refl
slice-none_either End = refl

drawn-arrows : (d : Drawn) → filter is_arrow (read_drawn d) ≡ drawn_arrow d
drawn-arrows (Slice mark args) = rw (slice-none mark.phase, slice-none_either mark.phase) refl
drawn-arrows (ProcessNamed pid name) = refl
drawn-arrows (RowNamed row name) = refl
drawn-arrows (Running counts at) = refl
drawn-arrows (Results counts at) = refl
drawn-arrows (RunMarked mark counts at) = refl
drawn-arrows (Slow category row at args) = refl
drawn-arrows (ArrowStarts test row at flow) = refl
drawn-arrows (ArrowFinishes test row at flow) = refl

all-arrows : (ds : List Drawn) → filter is_arrow (all_read ds) ≡ flat_map drawn_arrow ds
all-arrows [] = refl
all-arrows (d ∷ ds) =
    filter-append is_arrow (read_drawn d) (all_read ds) ∙ rw (drawn-arrows d, all-arrows ds) refl

-- the starts and finishes that are read are those that are drawn
pub arrows-drawn : (ds : List Drawn) → arrows_read (all_events ds) ≡ flat_map drawn_arrow ds
arrows-drawn ds = ap (filter is_arrow) (events-drawn ds) ∙ all-arrows ds

drawn-end : (d : Drawn) → map end_of (drawn_arrow d) ≡ map read_end (arrow_end d)
drawn-end (Slice mark args) = refl
drawn-end (ProcessNamed pid name) = refl
drawn-end (RowNamed row name) = refl
drawn-end (Running counts at) = refl
drawn-end (Results counts at) = refl
drawn-end (RunMarked mark counts at) = refl
drawn-end (Slow category row at args) = refl
drawn-end (ArrowStarts test row at flow) = refl
drawn-end (ArrowFinishes test row at flow) = refl

all-ends : (ds : List Drawn) → map end_of (flat_map drawn_arrow ds) ≡ map read_end (arrow_ends ds)
all-ends [] = refl
all-ends (d ∷ ds) =
    map-append end_of (drawn_arrow d) (flat_map drawn_arrow ds)
    ∙ (rw (drawn-end d, all-ends ds) refl ∙ sym (map-append read_end (arrow_end d) (arrow_ends ds)))

-- and so are their numbers
pub ends-drawn : (ds : List Drawn) → ends_read (all_events ds) ≡ map read_end (arrow_ends ds)
ends-drawn ds = ap (map end_of) (arrows-drawn ds) ∙ all-ends ds

-- ---- parts of lists that a function was applied to

module _ {X Y : Type 0} (f : X → Y) where
  -- what stands before and after an element
  pub record Parted (xs : List X) (before : List Y) (y : Y) : Type 0 where
    pub first : List X
    pub here : X
    pub later : List X
    pub whole : xs ≡ first ++ here ∷ later
    pub same : map f first ≡ before
    pub is : f here ≡ y

  pub parted : (xs : List X) (before after : List Y) (y : Y) → map f xs ≡ before ++ y ∷ after
      → Parted xs before y
  parted [] [] after y all = cc
  parted [] (z ∷ before) after y all = cc
  parted (x ∷ xs) [] after y all =
      record { first = []; here = x; later = xs; whole = refl; same = refl; is = cc }
  parted (x ∷ xs) (z ∷ before) after y all = more x z xs before y (parted xs before after y cc) cc
    where
      more : (x : X) (z : Y) (xs : List X) (before : List Y) (y : Y) → Parted xs before y → f x ≡ z
          → Parted (x ∷ xs) (z ∷ before) y
      more x z xs before y p is = record {
        first = x ∷ p.first;
        here = p.here;
        later = p.later;
        whole = ap (λ (ys : List X). x ∷ ys) p.whole;
        same = cc (is, p.same);
        is = p.is;
      }

  -- an element comes of one
  pub Has-from_map : (xs : List X) (y : Y) → Has (map f xs) y → (x : X) × Has xs x × (f x ≡ y)
  Has-from_map [] y h = elim h [ ]
  Has-from_map (x ∷ xs) y (inl is) = (x, inl refl, is)
  Has-from_map (x ∷ xs) y (inr there) =
      let (z, has, is) = Has-from_map xs y there in (z, inr has, is)

  pub Has-map : (xs : List X) (x : X) → Has xs x → Has (map f xs) (f x)
  Has-map [] x h = elim h [ ]
  Has-map (z ∷ xs) x (inl is) = inl (ap f is)
  Has-map (z ∷ xs) x (inr there) = inr (Has-map xs x there)

-- ---- pairs

-- which start or finish is read as one
start-of : (e : ArrowEnd) (flow : ℕ) → read_end e ≡ starting flow
    → (test : OwnedTestInstanceId) × (e ≡ Starts test flow)
start-of (Starts test n) flow is =
    let id : Some n ≡ Some flow = ap (λ (r : ReadEnd). r.id) is in (test, ap (Starts test) cc)
start-of (Finishes test n) flow is =
    let apart : false ≡ true = ap (λ (r : ReadEnd). bytes_eq r.phase (codes "s")) is in cc

finish-of : (e : ArrowEnd) (flow : ℕ) → read_end e ≡ finishing flow
    → (test : OwnedTestInstanceId) × (e ≡ Finishes test flow)
finish-of (Starts test n) flow is =
    let apart : false ≡ true = ap (λ (r : ReadEnd). bytes_eq r.phase (codes "f")) is in cc
finish-of (Finishes test n) flow is =
    let id : Some n ≡ Some flow = ap (λ (r : ReadEnd). r.id) is in (test, ap (Finishes test) cc)

number-of : (e : ArrowEnd) → (flow : ℕ) × ((read_end e).id ≡ Some flow)
number-of (Starts test n) = (n, refl)
number-of (Finishes test n) = (n, refl)

module _ (ends : List ArrowEnd) (pair : ArrowsPair ends) where
  starts_once : (before after : List ReadEnd) (flow : ℕ)
      → map read_end ends ≡ before ++ starting flow ∷ after → Has before (starting flow) → ⊥
  starts_once before after flow all has =
      let p = parted read_end ends before after (starting flow) all in
      let (test, here) = start-of p.here flow p.is in
      let (e, there, is) = Has-from_map read_end p.first (starting flow)
      (subst (λ (es : List ReadEnd). Has es (starting flow)) (sym p.same) has) in
      let (other, same) = start-of e flow is in
      pair.starts_once p.first p.later test other flow
      (p.whole ∙ ap (λ (x : ArrowEnd). p.first ++ x ∷ p.later) here)
      (subst (Has p.first) same there)

  has_start : (before after : List ReadEnd) (flow : ℕ)
      → map read_end ends ≡ before ++ finishing flow ∷ after → Has before (starting flow)
  has_start before after flow all =
      let p = parted read_end ends before after (finishing flow) all in
      let (test, here) = finish-of p.here flow p.is in
      let has = pair.has_start p.first p.later test flow
      (p.whole ∙ ap (λ (x : ArrowEnd). p.first ++ x ∷ p.later) here) in
      subst (λ (es : List ReadEnd). Has es (starting flow)) p.same
      (Has-map read_end p.first (Starts test flow) has)

  finishes_once : (before after : List ReadEnd) (flow : ℕ)
      → map read_end ends ≡ before ++ finishing flow ∷ after → Has before (finishing flow) → ⊥
  finishes_once before after flow all has =
      let p = parted read_end ends before after (finishing flow) all in
      let (test, here) = finish-of p.here flow p.is in
      let (e, there, is) = Has-from_map read_end p.first (finishing flow)
      (subst (λ (es : List ReadEnd). Has es (finishing flow)) (sym p.same) has) in
      let (other, same) = finish-of e flow is in
      pair.finishes_once p.first p.later test other flow
      (p.whole ∙ ap (λ (x : ArrowEnd). p.first ++ x ∷ p.later) here)
      (subst (Has p.first) same there)

  numbered : (r : ReadEnd) → Has (map read_end ends) r → (flow : ℕ) × (r.id ≡ Some flow)
  numbered r has =
      let (e, there, is) = Has-from_map read_end ends r has in
      let (flow, same) = number-of e in
      (flow, sym (ap (λ (x : ReadEnd). x.id) is) ∙ same)

  pub pair-read : ReadArrowsPair (map read_end ends)
  pair-read = record {
    numbered = numbered;
    starts_once = starts_once;
    has_start = has_start;
    finishes_once = finishes_once;
  }

pub arrows-history : (version : Parts) (g : ChromeTraceGroupBy) (events : List PlainEvent)
    → events_refusal g events ≡ None
    → ReadArrowsPair (ends_read (all_events (trace_drawn version g events)))
arrows-history version g events accepted =
    subst ReadArrowsPair (sym (ends-drawn (trace_drawn version g events)))
    (pair-read (arrow_ends (trace_drawn version g events)) (arrows-pair version g events accepted))
