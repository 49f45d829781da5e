-- The lines of a session that are left, in blocks.
use Rattle.std.specs.declared.alloc.Global.{Global}
use Rattle.std.specs.List.{AllByRecursion}
use Rattle.std.specs.Prelude.{◌≡◌, ℕ, ◌+◌, ◌-◌, ◌<◌, ◌≤◌, ◌^◌, ◌⊎◌, List}
use Rattle.std.specs.Prelude.{[], ◌∷◌, ◌++◌, length, take, drop, Vec}
use Rattle.rec_codec.specs.Lines.{NumberedLine, lines, numbered}

-- the lines of blocks, of which the last one stands first
abbrev pub block_lines : List (Vec ℕ Global) → List (List ℕ)
block_lines [] = []
block_lines (block ∷ blocks) = block_lines blocks ++ lines block.items

-- how many bytes blocks have
abbrev pub block_bytes : List (Vec ℕ Global) → ℕ
block_bytes [] = 0
block_bytes (block ∷ blocks) = block_bytes blocks + length block.items

-- the lines of a block from this place on, and of the blocks after it
abbrev pub lines_left : ℕ → ℕ → List ℕ → List (Vec ℕ Global) → List NumberedLine
lines_left number start block later =
    numbered number (lines (drop start block) ++ block_lines later)

-- the place is in the block, and no other block is left where it is at its end; none of them is
-- empty; and the number of each line is a u64
pub record AreBlocks (number start : ℕ) (block : List ℕ)
    (later : List (Vec ℕ Global)) : Type 0 where
  pub inside : start ≤ length block
  pub left : (start < length block) ⊎ (later ≡ [])
  pub filled : AllByRecursion (λ (b : Vec ℕ Global). 0 < length b.items) later
  pub room : number + (length block - start + block_bytes later) ≤ 2 ^ 64

-- a line ends before this place, and others begin there
pub record BeginsLastBlock (text : List ℕ) (start : ℕ) : Type 0 where
  pub some : 0 < start
  pub inside : start < length text
  pub parted : lines text ≡ lines (take start text) ++ lines (drop start text)

-- this is the first line of a text, and others begin after so many bytes
pub record StartsWithLine (text line : List ℕ) (taken : ℕ) : Type 0 where
  pub first : lines text ≡ line ∷ lines (drop taken text)
  pub some : 0 < taken
  pub inside : taken ≤ length text
