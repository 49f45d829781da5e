-- Parts that are written one after the other.
use Rattle.std.proofs.Common.{◌≡◌, ℕ, ◌+◌, ◌≤◌, Result, List, [], ◌++◌, length, take}
use Rattle.std.proofs.Common.{subst, sym, ap, ◌∙◌, arith, length-append, append-nil}
use Rattle.std.proofs.KnownBytes.{Appends-trans}
use Rattle.std.proofs.lemmas.List.{take-append-le}
use Rattle.std.proofs.Math.Seq.{take-append-add}
use Rattle.std.specs.declared.option.Option.{Option}
use Rattle.std.specs.Io.KnownBytes.{Appends}
use Rattle.rec_container.proofs.Results.{err_then, on_err}
use Rattle.rec_container.specs.Causes.{HasCause, Rose}
use Rattle.rec_container.specs.Taking.{TookPart}

-- a fault in one part, after what was taken whole
pub took_part : (a b c : Option (List ℕ)) (prefix part rest all : List ℕ) → Appends a b prefix
    → TookPart b c part → all ≡ prefix ++ (part ++ rest) → TookPart a c all
took_part a b c prefix part rest all p t e =
    let n = length prefix + t.count in
    let cut : take n all ≡ prefix ++ take t.count part =
    ap (take n) e ∙ take-append-add prefix (part ++ rest) t.count
    ∙ ap (λ l. prefix ++ l) (take-append-le t.count part rest (omega (arith, t.short))) in
    record {
      count = n;
      short = omega (
        arith,
        t.short,
        ap length e,
        length-append prefix (part ++ rest),
        length-append part rest,
      );
      taken =
          subst (Appends a c) (sym cut) (Appends-trans a b c prefix (take t.count part) p t.taken);
    }

-- a fault in the first part
pub took_first : (a b : Option (List ℕ)) (part rest all : List ℕ) → TookPart a b part
    → all ≡ part ++ rest → TookPart a b all
took_first a b part rest all t e =
    let cut : take t.count all ≡ take t.count part =
    ap (take t.count) e ∙ take-append-le t.count part rest (omega (arith, t.short)) in
    record {
      count = t.count;
      short = omega (arith, t.short, ap length e, length-append part rest);
      taken = subst (Appends a b) (sym cut) t.taken;
    }

-- two parts were taken
pub took_both : (a b c : Option (List ℕ)) (first second all : List ℕ) → Appends a b first
    → Appends b c second → all ≡ first ++ second → Appends a c all
took_both a b c first second all p q e =
    subst (Appends a c) (sym e) (Appends-trans a b c first second p q)

-- the second of two parts failed
pub took_second : (a b c : Option (List ℕ)) (first second all : List ℕ) → Appends a b first
    → TookPart b c second → all ≡ first ++ second → TookPart a c all
took_second a b c first second all p t e =
    took_part a b c first second [] all p t (e ∙ ap (λ l. first ++ l) (sym (append-nil second)))

-- a count that rose since then rose since before
rose_before : (a b c : ℕ) → a ≤ b → Rose b c → Rose a c
rose_before a b c before rose = omega arith

-- the cause of a fault, after parts without one
pub cause_at : {T E : Type 0} (a b c : ℕ) (r : Result T E) → a ≤ b → b ≤ c → Rose b c
    → HasCause a c r
cause_at a b c r before later rose =
    record { later = omega arith; failed = on_err r (rose_before a b c before rose) }

-- the cause of the last part's fault, if there is one
pub cause_of_last : {T E : Type 0} (a b c : ℕ) (r : Result T E) → a ≤ b → HasCause b c r
    → HasCause a c r
cause_of_last a b c r before h = record {
  later = omega (arith, h.later);
  failed = err_then r (rose_before a b c before) h.failed;
}
