-- Where contents stand in bytes.
use Rattle.std.specs.Prelude.{◌≡◌, ℕ, ◌+◌, ◌≤◌, List, length, take, drop, Option, Some, None}
use Rattle.rec_portable.specs.declared.window.Window.{Window}

-- the part of the bytes in a window
abbrev pub bytes_in : List ℕ → Window → List ℕ
bytes_in bytes w = take w.len (drop w.at bytes)

-- the window lies in the bytes, and this is its part of them
abbrev pub Shows : List ℕ → Window → List ℕ → Type 0
Shows bytes w part = (w.at + w.len ≤ length bytes) × (bytes_in bytes w ≡ part)

-- a window of what is there, and none of what isn't
abbrev pub IsWindowOf : List ℕ → Option (List ℕ) → Option Window → Type 0
IsWindowOf bytes None None = Unit {0}
IsWindowOf bytes (Some part) (Some w) = Shows bytes w part
IsWindowOf bytes None (Some w) = ⊥
IsWindowOf bytes (Some part) None = ⊥
