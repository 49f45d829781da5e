-- A bundle is read as one record at most.
use Rattle.std.proofs.Common.{◌≡◌, ℕ, List, [], ◌∷◌, sym, ap, subst, ◌∙◌}
use Rattle.rec_container.proofs.Unique.{one_reading_spec}
use Rattle.rec_container.specs.Container.{Entry, IsContainer}
use Rattle.rec_store.proofs.PartsOf.{the_same}
use Rattle.rec_store.specs.Reading.{IsReading, RunRecord, record_of}

first : List Entry → List ℕ
first [] = []
first (e ∷ es) = e.content

second : List Entry → List ℕ
second [] = []
second (e ∷ es) = first es

third : List Entry → List ℕ
third [] = []
third (e ∷ es) = second es

pub one_record_spec : (bytes : List ℕ) (r s : RunRecord) → IsReading bytes r → IsReading bytes s
    → r ≡ s
unfolding first second third
one_record_spec bytes r s p q =
    let same = one_reading_spec bytes _ _ p.bundled q.bundled in
    let manifest : p.manifest ≡ q.manifest = ap first same in
    let log : p.log ≡ q.log = ap second same in
    let store : p.store ≡ q.store = ap third same in
    let entries : p.entries ≡ q.entries = one_reading_spec q.store p.entries q.entries
    (subst (λ (b : List ℕ). IsContainer b p.entries) store p.stored) q.stored in
    let read : record_of p.manifest p.log p.entries ≡ record_of q.manifest q.log q.entries =
    ap (λ m. record_of m p.log p.entries) manifest ∙ ap (λ l. record_of q.manifest l p.entries) log
    ∙ ap (λ es. record_of q.manifest q.log es) entries in
    the_same r s (sym p.read ∙ read ∙ q.read)
