use Rattle.rec_json.proofs.FieldOrder.{in_order-keys, in_order-table}
use Rattle.rec_json.proofs.laws.ascending_fields_are_in_order.Goals as goal

pub returns-clause-of_keys : goal.returns-clause-of_keys
returns-clause-of_keys c = in_order-keys

pub returns-clause-of_table : goal.returns-clause-of_table
returns-clause-of_table c = in_order-table
