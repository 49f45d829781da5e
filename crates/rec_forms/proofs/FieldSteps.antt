-- Where a call that reads several fields refuses, so does what goes on with them.
use Rattle.std.specs.Prelude.{Option, Some, None, refl}
use Rattle.rec_forms.specs.declared.errors.FromValueError.TheVariants.{NotAValue, OutOfMemory}
use Rattle.rec_forms.specs.declared.errors.FromValueError.{FromValueError}
use Rattle.rec_forms.specs.Gives.{Refuses}
use Rattle.rec_forms.specs.Several.{three, four}
use Rattle.rec_forms.specs.Shape.{◌>>=◌}

pub three_refused : {A B C T : Type 0} (e : FromValueError) (a : Option A) (b : Option B)
    (c : Option C) (k : A → B → C → Option T)
    → Refuses e (three a b c) → Refuses e (a >>= λ x. b >>= λ y. c >>= λ z. k x y z)
three_refused OutOfMemory a b c k h = tt
three_refused NotAValue None b c k h = refl
three_refused NotAValue (Some x) None c k h = refl
three_refused NotAValue (Some x) (Some y) None k h = refl
three_refused NotAValue (Some x) (Some y) (Some z) k h = absurd cc

pub four_refused : {A B C D T : Type 0} (e : FromValueError) (a : Option A) (b : Option B)
    (c : Option C) (d : Option D) (k : A → B → C → D → Option T)
    → Refuses e (four a b c d) → Refuses e (a >>= λ x. b >>= λ y. c >>= λ z. d >>= λ u. k x y z u)
four_refused OutOfMemory a b c d k h = tt
four_refused NotAValue None b c d k h = refl
four_refused NotAValue (Some x) None c d k h = refl
four_refused NotAValue (Some x) (Some y) None d k h = refl
four_refused NotAValue (Some x) (Some y) (Some z) None k h = refl
four_refused NotAValue (Some x) (Some y) (Some z) (Some u) k h = absurd cc
