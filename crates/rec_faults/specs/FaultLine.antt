-- The line of a fault: names and fields, one after the other with a space between.
use Rattle.std.specs.Fmt.{decimal}
use Rattle.std.specs.Prelude.{ℕ, List, [], ◌∷◌, ◌++◌, Option, Some, None, codes}
use Rattle.rec_container.specs.declared.errors.ContainerError.TheVariants as containers
use Rattle.rec_container.specs.declared.errors.ContainerError.{ContainerError}
use Rattle.rec_spans.specs.declared.spans.SpanKey.TheVariants as spans
use Rattle.rec_spans.specs.declared.spans.SpanKey.{SpanKey}
use Rattle.rec_errors.specs.declared.export_error.RecordExportError.TheVariants.{
  SourceFault,
  SessionTooLarge,
  ParseHead,
  ReadRunLog,
  ParseEvent,
  NameCollision,
  CountOutOfRange,
  FileTooLarge,
  MissingTestStart,
  MissingScriptStart,
  MissingStressSubRunStart,
  SpanAlreadyOpen,
  SlotBusy,
  TimestampOutOfRange,
  RowOutOfRange,
  BundleFault,
  TraceFault,
  OutOfMemory,
}
use Rattle.rec_errors.specs.declared.export_error.RecordExportError.{RecordExportError}
use Rattle.rec_errors.specs.declared.words_error.WordsError.TheVariants.{
  NoCommand,
  UnknownCommand,
  MissingPositional,
  BadNumber,
  UnknownOption,
  RepeatedOption,
  MissingValue,
  BadValue,
}
use Rattle.rec_errors.specs.declared.words_error.WordsError.{WordsError}

mutual
  -- what a line shows: a text or an id, a number,
  -- or a variant with its fields in order of declaration
  pub data Shown : Type 0 where
    text : List ℕ → Shown
    number : ℕ → Shown
    variant : List ℕ → Fields → Shown

  -- fields with names, and fields without
  pub data Fields : Type 0 where
    no_fields : Fields
    field : List ℕ → Shown → Fields → Fields
    unnamed : Shown → Fields → Fields

-- the text of what is shown, with what follows it
abbrev mutual
  pub shown_text : Shown → List ℕ → List ℕ
  shown_text (text t) rest = t ++ rest
  shown_text (number n) rest = decimal n ++ rest
  shown_text (variant name fields) rest = name ++ fields_text fields rest

  -- ` name=value` for each field, or ` value` where it has no name
  pub fields_text : Fields → List ℕ → List ℕ
  fields_text no_fields rest = rest
  fields_text (field name value fields) rest =
      32 ∷ (name ++ (61 ∷ shown_text value (fields_text fields rest)))
  fields_text (unnamed value fields) rest = 32 ∷ shown_text value (fields_text fields rest)

-- the line of a fault, with its LF
unfoldable pub line : Shown → List ℕ
line fault = shown_text fault (10 ∷ [])

-- a number that may be absent
abbrev pub optional_number : Option ℕ → Shown
optional_number None = text (codes "None")
optional_number (Some n) = number n

-- what a span is of
abbrev pub span_shown : SpanKey → Shown
span_shown spans.Run = variant (codes "Run") no_fields
span_shown spans.SubRun = variant (codes "SubRun") no_fields
span_shown (spans.Script index) = variant (codes "Script") (unnamed (number index) no_fields)
span_shown (spans.Test test) =
    variant (codes "Test") (field (codes "binary_id") (text test.binary_id)
    (field (codes "test_name") (text test.test_name) no_fields))

-- the index of a word or of a byte
abbrev pub at_place : ℕ → Fields
at_place at = field (codes "at") (number at) no_fields

-- faulty words
abbrev pub words_shown : WordsError → Shown
words_shown NoCommand = variant (codes "NoCommand") no_fields
words_shown (UnknownCommand at) = variant (codes "UnknownCommand") (at_place at)
words_shown (MissingPositional at) = variant (codes "MissingPositional") (at_place at)
words_shown (BadNumber at) = variant (codes "BadNumber") (at_place at)
words_shown (UnknownOption at) = variant (codes "UnknownOption") (at_place at)
words_shown (RepeatedOption at) = variant (codes "RepeatedOption") (at_place at)
words_shown (MissingValue at) = variant (codes "MissingValue") (at_place at)
words_shown (BadValue at) = variant (codes "BadValue") (at_place at)

-- what is wrong with the bytes of a container
abbrev pub container_shown : ContainerError → Shown
container_shown containers.BadMagic = variant (codes "BadMagic") no_fields
container_shown (containers.Truncated at) = variant (codes "Truncated") (at_place at)
container_shown (containers.BadTag at) = variant (codes "BadTag") (at_place at)
container_shown (containers.BadName at) = variant (codes "BadName") (at_place at)
container_shown (containers.DuplicateName at) = variant (codes "DuplicateName") (at_place at)
container_shown (containers.TrailingBytes at) = variant (codes "TrailingBytes") (at_place at)
container_shown containers.OutOfMemory = variant (codes "OutOfMemory") no_fields

-- the refusal of a session
abbrev pub export_shown : RecordExportError → Shown
export_shown SourceFault = variant (codes "SourceFault") no_fields
export_shown (SessionTooLarge limit) =
    variant (codes "SessionTooLarge") (field (codes "limit") (number limit) no_fields)
export_shown ParseHead = variant (codes "ParseHead") no_fields
export_shown (ReadRunLog line_number) =
    variant (codes "ReadRunLog") (field (codes "line_number") (number line_number) no_fields)
export_shown (ParseEvent line_number) =
    variant (codes "ParseEvent") (field (codes "line_number") (number line_number) no_fields)
export_shown (NameCollision file_name) =
    variant (codes "NameCollision") (field (codes "file_name") (text file_name) no_fields)
export_shown (CountOutOfRange event) =
    variant (codes "CountOutOfRange") (field (codes "event") (optional_number event) no_fields)
export_shown (FileTooLarge file_name size limit) =
    variant (codes "FileTooLarge") (field (codes "file_name") (text file_name)
    (field (codes "size") (number size) (field (codes "limit") (number limit) no_fields)))
export_shown (MissingTestStart event binary_id test_name) =
    variant (codes "MissingTestStart") (field (codes "event") (number event) (field
    (codes "binary_id") (text binary_id) (field (codes "test_name") (text test_name) no_fields)))
export_shown (MissingScriptStart event script_id) =
    variant (codes "MissingScriptStart")
    (field (codes "event") (number event) (field (codes "script_id") (text script_id) no_fields))
export_shown (MissingStressSubRunStart event) =
    variant (codes "MissingStressSubRunStart") (field (codes "event") (number event) no_fields)
export_shown (SpanAlreadyOpen event span) =
    variant (codes "SpanAlreadyOpen")
    (field (codes "event") (number event) (field (codes "span") (span_shown span) no_fields))
export_shown (SlotBusy event slot) =
    variant (codes "SlotBusy")
    (field (codes "event") (number event) (field (codes "slot") (number slot) no_fields))
export_shown (TimestampOutOfRange event) =
    variant (codes "TimestampOutOfRange") (field (codes "event") (number event) no_fields)
export_shown (RowOutOfRange event row) =
    variant (codes "RowOutOfRange")
    (field (codes "event") (number event) (field (codes "number") (number row) no_fields))
export_shown BundleFault = variant (codes "BundleFault") no_fields
export_shown TraceFault = variant (codes "TraceFault") no_fields
export_shown OutOfMemory = variant (codes "OutOfMemory") no_fields

-- a sink that failed, and memory that ran out
abbrev pub sink_shown : Shown
sink_shown = variant (codes "SinkFailed") no_fields

abbrev pub memory_shown : Shown
memory_shown = variant (codes "AllocError") no_fields
