use Rattle.serde_json.specs.Data.{string}
use Rattle.rec_forms.proofs.Writing.{◌▸◌, saying}
use Rattle.rec_forms.specs.Shape.{natural}
use Rattle.rec_forms.specs.Writable.{integer_writable, natural_writable}
use Rattle.rec_forms.specs.Writable.{optional_writable, string_writable}
use Rattle.rec_trace_events.proofs.event_parts.with_fields_after_args.Goals as goal

pub returns : goal.returns
returns c =
    saying
    (λ known.
    let id = known.1.1 in
    let ph = id.1.1 in
    let scope = ph.1.1 in (
      optional_writable (λ s. string s.now) (λ s is. string_writable s.now is) _ known.0,
      (
        string_writable _ known.1.0,
        (
          optional_writable natural natural_writable _ id.0,
          (
            string_writable _ id.1.0,
            (
              string_writable _ ph.0,
              (
                natural_writable _ ph.1.0,
                (
                  optional_writable (λ s. string s.now) (λ s is. string_writable s.now is)
                      _ scope.0,
                  (
                    natural_writable _ scope.1.0,
                    (integer_writable _ scope.1.1, tt),
                  ),
                ),
              ),
            ),
          ),
        ),
      ),
    ))
    (c.with_optional_text-object.ensures ▸ c.text-object.ensures ▸ c.optional-object.ensures ▸
    c.text-object-2.ensures ▸ c.text-object-3.ensures
    ▸ c.field-object.ensures ▸ c.with_optional_text-object-2.ensures ▸ c.field-object-2.ensures ▸
    c.field.ensures)
