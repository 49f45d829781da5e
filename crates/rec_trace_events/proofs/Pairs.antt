-- The parts of a pair, by name.

pub left : {A B : Type 0} → A × B → A
left p = p.0

pub right : {A B : Type 0} → A × B → B
right p = p.1
