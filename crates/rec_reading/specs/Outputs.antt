-- The outputs of a run's store, as they are printed behind a view.
use Rattle.std.specs.Fmt.{decimal}
use Rattle.std.specs.Int.{w64, to_be_bytes}
use Rattle.std.specs.List.{flat_map, starts_with}
use Rattle.std.specs.Prelude.{ℕ, Bool, List, [], ◌∷◌, ◌++◌, ◌==◌, length, codes, if◌then◌else◌}
use Rattle.std.specs.Prelude.{Option, Some, None, Result, Ok, Err, ⊤}
use Rattle.hex.specs.Hex.{encode_lower}
use Rattle.rec_container.specs.Container.{Entry, content_of}
use Rattle.rec_container.specs.Reading.{◌>>=◌}
use Rattle.rec_codec.specs.Event.{RecordedEvent}
use Rattle.rec_store.specs.declared.read_error.RecordReadError.TheVariants.{FileNotFound}
use Rattle.rec_store.specs.Kept.{event_paths}
use Rattle.rec_store.specs.Namer.{sha256_number}
use Rattle.rec_replay.specs.declared.conversion_error.ReplayConversionError.TheVariants.{RecordRead}
use Rattle.rec_errors.specs.declared.reading_error.ReadingError.TheVariants.{Conversion}
use Rattle.rec_errors.specs.declared.reading_error.ReadingError.TheVariants.{OutputChanged}
use Rattle.rec_errors.specs.declared.reading_error.ReadingError.{ReadingError}
use Rattle.rec_reading.specs.Printing.{before}
use Rattle.rec_reading.specs.RunParts.{of_bundle}
use Rattle.rec_reading.specs.Stores.{store_part}

abbrev pub begins_with : List ℕ → List ℕ → Bool
begins_with text start = starts_with ◌==◌ text start

-- ---- the outputs that events name

-- an output is there, or it isn't found
abbrev pub found : List ℕ → Option (List ℕ) → Result ⊤ ReadingError
found path None = Err (Conversion (RecordRead (FileNotFound path)))
found path (Some content) = Ok tt

-- each of these outputs is there, or the first that isn't
abbrev pub all_found : List Entry → List (List ℕ) → Result ⊤ ReadingError
all_found es [] = Ok tt
all_found es (path ∷ paths) = found path (content_of es path) >>= (λ _. all_found es paths)

abbrev pub named_paths : List RecordedEvent → List (List ℕ)
named_paths events = flat_map event_paths events

-- ---- an output

-- outputs stand in the folder `out`
abbrev pub is_output : List ℕ → Bool
is_output name = begins_with name (codes "out/")

-- where an output of these bytes stands, without its kind
abbrev pub place_of : List ℕ → List ℕ
place_of content = codes "out/" ++ encode_lower (to_be_bytes w64 (sha256_number content))

-- its path and its length, then its bytes
abbrev pub block : List ℕ → List ℕ → List ℕ
block name content =
    name ++ (32 ∷ (decimal (length content) ++ (10 ∷ (content ++ 10 ∷ []))))

-- what is printed of an entry: an output whose name is that of its bytes; others are refused, and
-- nothing is printed of what is no output
abbrev pub output_printed : List ℕ → List ℕ → Result (List ℕ) ReadingError
output_printed name content =
    if is_output name
    then (if begins_with name (place_of content) then Ok (block name content)
    else Err (OutputChanged name))
    else Ok []

-- ---- all of them

-- the outputs of a store in their order, or the first that is refused
abbrev pub outputs_printed : List Entry → Result (List ℕ) ReadingError
outputs_printed [] = Ok []
outputs_printed (e ∷ es) =
    output_printed e.name e.content >>= (λ text. before text (outputs_printed es))

-- each output that the events name is there, and each that is there has the name of its bytes
abbrev pub outputs_of : List Entry → List RecordedEvent → Result (List ℕ) ReadingError
outputs_of es events = all_found es (named_paths events) >>= (λ _. outputs_printed es)

-- the same of the store of a bundle
abbrev pub stored_outputs : List Entry → List RecordedEvent → Result (List ℕ) ReadingError
stored_outputs es events = of_bundle (store_part es) >>= (λ store. outputs_of store events)
