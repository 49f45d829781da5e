-- What refuses a part of a form refuses the whole.
use Rattle.std.proofs.Common.{refl, Option, Some, None}
use Rattle.rec_forms.specs.declared.errors.FromValueError.TheVariants.{NotAValue, OutOfMemory}
use Rattle.rec_forms.specs.declared.errors.FromValueError.{FromValueError}
use Rattle.rec_forms.specs.Gives.{Refuses}
use Rattle.rec_forms.specs.Several.{two, three, four, five}
use Rattle.rec_forms.specs.Shape.{◌>>=◌}

-- the first part
pub at_first : {A T : Type 0} (f : A → Option T) (e : FromValueError) (o : Option A) → Refuses e o
    → Refuses e (o >>= f)
at_first f NotAValue o h = rw h refl
at_first f OutOfMemory o h = tt

-- parts that are read by one call
pub at_two : {A B T : Type 0} (f : A → B → Option T) (e : FromValueError) (a : Option A)
    (b : Option B)
    → Refuses e (two a b) → Refuses e (a >>= λ x. b >>= λ y. f x y)
at_two f NotAValue None b h = refl
at_two f NotAValue (Some x) None h = refl
at_two f NotAValue (Some x) (Some y) h = cc
at_two f OutOfMemory a b h = tt

pub at_three : {A B C T : Type 0} (f : A → B → C → Option T) (e : FromValueError) (a : Option A)
    (b : Option B) (c : Option C)
    → Refuses e (three a b c) → Refuses e (a >>= λ x. b >>= λ y. c >>= λ z. f x y z)
at_three f NotAValue None b c h = refl
at_three f NotAValue (Some x) None c h = refl
at_three f NotAValue (Some x) (Some y) None h = refl
at_three f NotAValue (Some x) (Some y) (Some z) h = cc
at_three f OutOfMemory a b c h = tt

pub at_four : {A B C D T : Type 0} (f : A → B → C → D → Option T) (e : FromValueError)
    (a : Option A) (b : Option B) (c : Option C) (d : Option D)
    → Refuses e (four a b c d) → Refuses e (a >>= λ x. b >>= λ y. c >>= λ z. d >>= λ u. f x y z u)
at_four f NotAValue None b c d h = refl
at_four f NotAValue (Some x) None c d h = refl
at_four f NotAValue (Some x) (Some y) None d h = refl
at_four f NotAValue (Some x) (Some y) (Some z) None h = refl
at_four f NotAValue (Some x) (Some y) (Some z) (Some u) h = cc
at_four f OutOfMemory a b c d h = tt

pub at_five : {A B C D E T : Type 0} (f : A → B → C → D → E → Option T) (e : FromValueError)
    (a : Option A) (b : Option B) (c : Option C) (d : Option D) (v : Option E)
    → Refuses e (five a b c d v)
    → Refuses e (a >>= λ x. b >>= λ y. c >>= λ z. d >>= λ u. v >>= λ w. f x y z u w)
at_five f NotAValue None b c d v h = refl
at_five f NotAValue (Some x) None c d v h = refl
at_five f NotAValue (Some x) (Some y) None d v h = refl
at_five f NotAValue (Some x) (Some y) (Some z) None v h = refl
at_five f NotAValue (Some x) (Some y) (Some z) (Some u) None h = refl
at_five f NotAValue (Some x) (Some y) (Some z) (Some u) (Some w) h = cc
at_five f OutOfMemory a b c d v h = tt

-- the same, with a part that is read later among them
pub around_three : {A B C R T : Type 0} (f : A → R → B → C → Option T) (e : FromValueError)
    (a : Option A) (r : Option R) (b : Option B) (c : Option C)
    → Refuses e (three b c a) → Refuses e (a >>= λ x. r >>= λ s. b >>= λ y. c >>= λ z. f x s y z)
around_three f NotAValue None r b c h = refl
around_three f NotAValue (Some x) None b c h = refl
around_three f NotAValue (Some x) (Some s) None c h = refl
around_three f NotAValue (Some x) (Some s) (Some y) None h = refl
around_three f NotAValue (Some x) (Some s) (Some y) (Some z) h = cc
around_three f OutOfMemory a r b c h = tt

pub around_four : {A B C D R T : Type 0} (f : A → R → B → C → D → Option T) (e : FromValueError)
    (a : Option A) (r : Option R) (b : Option B) (c : Option C) (d : Option D)
    → Refuses e (four b c d a)
    → Refuses e (a >>= λ x. r >>= λ s. b >>= λ y. c >>= λ z. d >>= λ u. f x s y z u)
around_four f NotAValue None r b c d h = refl
around_four f NotAValue (Some x) None b c d h = refl
around_four f NotAValue (Some x) (Some s) None c d h = refl
around_four f NotAValue (Some x) (Some s) (Some y) None d h = refl
around_four f NotAValue (Some x) (Some s) (Some y) (Some z) None h = refl
around_four f NotAValue (Some x) (Some s) (Some y) (Some z) (Some u) h = cc
around_four f OutOfMemory a r b c d h = tt
