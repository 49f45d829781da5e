-- The lines of a text that is cut at a newline, and of blocks.
use Rattle.std.proofs.Common.{◌≡◌, ℕ, ◌+◌, ◌-◌, ◌<◌, ◌≤◌, ◌==◌, inl, ◌⊎◌, min, List}
use Rattle.std.proofs.Common.{[], ◌∷◌, ◌++◌, length, take, drop, get_or, Some, None}
use Rattle.std.proofs.Common.{Bool, true, false, if◌then◌else◌, ap, subst, sym, ◌∙◌}
use Rattle.std.proofs.Common.{refl, arith, append_assoc, append-nil}
use Rattle.std.proofs.lemmas.Bool.Decides.{nat_tests}
use Rattle.std.proofs.lemmas.Grind.{common_steps}
use Rattle.std.proofs.lemmas.List.{take-append-drop, take_all, take_more, drop-drop}
use Rattle.std.proofs.lemmas.List.{drop_all, get_or-take, length-drop, length-take}
use Rattle.std.specs.declared.alloc.Global.{Global}
use Rattle.std.specs.List.{AllByRecursion, onto_first, position, slice_get, slice_index}
use Rattle.std.specs.Prelude.{Vec}
use Rattle.rec_codec.specs.Lines.{NumberedLine, lines, numbered}
use Rattle.rec_export.specs.Session.{event_lines}
use Rattle.rec_export.specs.SessionLines.{AreBlocks, BeginsLastBlock, StartsWithLine}
use Rattle.rec_export.specs.SessionLines.{block_bytes, block_lines, lines_left}

-- what a byte makes of the lines after it, it makes of the first of them
lines_onto : (newline : Bool) (b : ℕ) (line : List ℕ) (before after : List (List ℕ))
    → (if newline then [] ∷ ((line ∷ before) ++ after) else onto_first b ((line ∷ before) ++ after))
    ≡ (if newline then [] ∷ line ∷ before else onto_first b (line ∷ before)) ++ after
lines_onto true b line before after = refl
lines_onto false b line before after = refl

-- what ends at a newline has a line
first_of : (bytes : List ℕ)
    → (line : List ℕ) × (others : List (List ℕ)) × (lines (bytes ++ 10 ∷ []) ≡ line ∷ others)
first_of [] = ([], [], refl)
first_of (b ∷ bytes) =
    let rest = first_of bytes in
    byte (b == 10) rest.0 rest.1 (lines (bytes ++ 10 ∷ [])) rest.2
  where
    byte : (newline : Bool) (line : List ℕ) (others all : List (List ℕ)) → all ≡ line ∷ others
        → (first : List ℕ) × (after : List (List ℕ))
        × ((if newline then [] ∷ all else onto_first b all) ≡ first ∷ after)
    byte true line others all is = ([], all, refl)
    byte false line others all is = (b ∷ line, others, ap (onto_first b) is)

-- the lines up to a newline, and those after it
lines_parted : (before after : List ℕ)
    → lines (before ++ 10 ∷ after) ≡ lines (before ++ 10 ∷ []) ++ lines after
lines_parted [] after = refl
lines_parted (b ∷ before) after =
    let first = first_of before in
    ap (λ ls. if b == 10 then [] ∷ ls else onto_first b ls)
    (lines_parted before after ∙ ap (λ ls. ls ++ lines after) first.2)
    ∙ lines_onto (b == 10) b first.0 first.1 (lines after)
    ∙ ap (λ ls. (if b == 10 then [] ∷ ls else onto_first b ls) ++ lines after) (sym first.2)

-- a slice from a place on is what stands there
pub slice_from : (text : List ℕ) (start : ℕ)
    → take (length text - start) (drop start text) ≡ drop start text
slice_from text start =
    take_all (length text - start) (drop start text)
    (let l = length-drop start text in omega (arith, l))

-- the first line of a slice, from a place on
pub first_from : (text held line : List ℕ) (start taken : ℕ) → held ≡ text
    → StartsWithLine (take (length held - start) (drop start held)) line taken
    → StartsWithLine (drop start text) line taken
first_from text held line start taken is first =
    subst (λ (l : List ℕ). StartsWithLine l line taken)
    (slice_from held start ∙ ap (λ (l : List ℕ). drop start l) is) first

-- a newline that is found stands in the text
pub found_inside : (text : List ℕ) (end : ℕ) → position (λ b. b == 10) text ≡ Some end
    → end + 1 ≤ length text
found_inside text end h = grind (arith, nat_tests)

-- a text is cut after a newline
pub begins_last_block : (text : List ℕ) (at : ℕ) → at + 1 < length text → get_or text at 0 ≡ 10
    → BeginsLastBlock text (at + 1)
begins_last_block text at inside newline = record {
  some = omega arith;
  inside = inside;
  parted =
      let here : at < length text = omega (arith, inside) in
      let before : take (at + 1) text ≡ take at text ++ 10 ∷ [] =
      take_more text at 0 here ∙ ap (λ b. take at text ++ b ∷ []) newline in
      ap lines (sym (take-append-drop (at + 1) text) ∙ ap (λ l. l ++ drop (at + 1) text) before
      ∙ append_assoc (take at text) (10 ∷ []) (drop (at + 1) text))
      ∙ lines_parted (take at text) (drop (at + 1) text)
      ∙ ap (λ l. lines l ++ lines (drop (at + 1) text)) (sym before);
}

-- a newline that was found before a block stands in the text
pub found_before : (text : List ℕ) (end at : ℕ) → end < length text → at < length (take end text)
    → slice_index (take end text) at == 10 ≡ true
    → (at + 1 < length text) × (get_or text at 0 ≡ 10)
found_before text end at inside here newline =
    let short : at < end = let l = length-take end text in grind (arith, l) in (
      omega (arith, inside, short),
      let same = get_or-take end text at 0 short in grind (arith, nat_tests),
    )

-- ---- the first line of all

-- the first line stands before the lines after it
pub first_of_all : (all : List NumberedLine) (line : NumberedLine) (rest : List NumberedLine)
    → Some line ≡ slice_get all 0 → rest ≡ event_lines all → all ≡ line ∷ rest
first_of_all [] line rest first after = absurd (let f = first in cc)
first_of_all (l ∷ ls) line rest first after = let f = first in rw after (ap (λ x. x ∷ ls) cc)

-- without a first line there is none
pub none_first : (all : List NumberedLine) → None ≡ slice_get all 0 → all ≡ []
none_first [] first = refl
none_first (l ∷ ls) first = absurd (let f = first in cc)

-- ---- blocks

-- a block that is added stands before all others
pub lines_added : (blocks : List (Vec ℕ Global)) (block : Vec ℕ Global)
    → block_lines (blocks ++ block ∷ []) ≡ lines block.items ++ block_lines blocks
lines_added [] block = sym (append-nil (lines block.items))
lines_added (b ∷ blocks) block =
    ap (λ ls. ls ++ lines b.items) (lines_added blocks block)
    ∙ append_assoc (lines block.items) (block_lines blocks) (lines b.items)

pub bytes_added : (blocks : List (Vec ℕ Global)) (block : Vec ℕ Global)
    → block_bytes (blocks ++ block ∷ []) ≡ length block.items + block_bytes blocks
bytes_added [] block = omega arith
bytes_added (b ∷ blocks) block = let rest = bytes_added blocks block in omega (arith, rest)

abbrev pub IsFilled : Vec ℕ Global → Type 0
IsFilled block = 0 < length block.items

pub filled_added : (blocks : List (Vec ℕ Global)) (block : Vec ℕ Global)
    → AllByRecursion IsFilled blocks → IsFilled block
    → AllByRecursion IsFilled (blocks ++ block ∷ [])
filled_added [] block all one = (one, tt)
filled_added (b ∷ blocks) block all one = (all.0, filled_added blocks block all.1 one)

pub filled_last : (blocks : List (Vec ℕ Global)) (block : Vec ℕ Global)
    → AllByRecursion IsFilled (blocks ++ block ∷ [])
    → AllByRecursion IsFilled blocks × IsFilled block
filled_last [] block all = (tt, all.0)
filled_last (b ∷ blocks) block all =
    let rest = filled_last blocks block all.1 in ((all.0, rest.0), rest.1)

-- the first line is the last one of its block: the lines after it are those of the next block and
-- of the others
pub next_block : (number start taken : ℕ) (text line : List ℕ) (later others : List (Vec ℕ Global))
    (next : Vec ℕ Global)
    → lines (drop start text) ≡ line ∷ lines (drop taken (drop start text))
    → length text ≤ start + taken → later ≡ others ++ next ∷ []
    → lines_left (number + 1) 0 next.items others ≡ event_lines (lines_left number start text later)
next_block number start taken text line later others next first end is =
    let nothing : drop taken (drop start text) ≡ [] =
    drop-drop taken start text ∙ drop_all (start + taken) text end in
    sym (ap (λ ls. event_lines (numbered number (ls ++ block_lines later)))
    (first ∙ ap (λ bytes. line ∷ lines bytes) nothing)
    ∙ ap (numbered (number + 1)) (ap block_lines is ∙ lines_added others next))

-- such blocks are left after the first line where it is the last one of its block
pub next_blocks : (number counted start taken : ℕ) (text : List ℕ)
    (later others : List (Vec ℕ Global)) (next : Vec ℕ Global)
    → AreBlocks number start text later → later ≡ others ++ next ∷ [] → 0 < taken
    → counted ≤ number + 1 → taken ≤ length text - start → AreBlocks counted 0 next.items others
next_blocks number counted start taken text later others next are is some up inside =
    let filled = filled_last others next (subst (AllByRecursion IsFilled) is are.filled) in
    record {
      inside = omega arith;
      left = inl filled.1;
      filled = filled.0;
      room =
          let more = ap block_bytes is ∙ bytes_added others next in
          let room = are.room in
          omega (arith, more, room, some, up, inside);
    }

-- a text in blocks; the first one is empty only where it is the only one
pub record AreOf (text block : List ℕ) (later : List (Vec ℕ Global)) : Type 0 where
  pub parted : lines text ≡ lines block ++ block_lines later
  pub left : (0 < length block) ⊎ (later ≡ [])
  pub filled : AllByRecursion IsFilled later
  pub bytes : length block + block_bytes later ≡ length text

-- the end of the first block becomes a block of its own
pub block_added : (text block rest : List ℕ) (later more : List (Vec ℕ Global))
    (last : Vec ℕ Global) (start : ℕ)
    → AreOf text block later → BeginsLastBlock block start → rest ≡ take start block
    → last.items ≡ drop start block → more ≡ later ++ last ∷ [] → AreOf text rest more
block_added text block rest later more last start are begins is_rest is_last is_more =
    let some = begins.some in
    let inside = begins.inside in
    let rest_bytes : length rest ≡ start =
    ap length is_rest ∙ grind (arith, common_steps, inside) in
    let last_bytes : length last.items ≡ length block - start =
    ap length is_last ∙ length-drop start block in
    record {
      parted =
          are.parted
          ∙ ap (λ ls. ls ++ block_lines later) begins.parted
          ∙ append_assoc (lines (take start block)) (lines (drop start block)) (block_lines later)
          ∙ ap (λ r. lines r ++ (lines (drop start block) ++ block_lines later)) (sym is_rest)
          ∙ ap (λ l. lines rest ++ (lines l ++ block_lines later)) (sym is_last)
          ∙ ap (λ ls. lines rest ++ ls) (sym (ap block_lines is_more ∙ lines_added later last));
      left = inl (omega (arith, rest_bytes, some));
      filled =
          subst (AllByRecursion IsFilled) (sym is_more)
          (filled_added later last are.filled (omega (arith, last_bytes, inside)));
      bytes =
          let added = ap block_bytes is_more ∙ bytes_added later last in
          let bytes = are.bytes in
          omega (arith, added, bytes, rest_bytes, last_bytes, inside);
    }

-- where a block is left after a line, the number of the line after it is a u64
pub next_number : (number start taken : ℕ) (text : List ℕ) (later others : List (Vec ℕ Global))
    (next : Vec ℕ Global)
    → AreBlocks number start text later → later ≡ others ++ next ∷ [] → 0 < taken
    → taken ≤ length text - start → min (number + 1) 18446744073709551615 ≡ number + 1
next_number number start taken text later others next are is some inside =
    let filled = filled_last others next (subst (AllByRecursion IsFilled) is are.filled) in
    let one = filled.1 in
    let more = ap block_bytes is ∙ bytes_added others next in
    let room = are.room in
    let small : number + 1 ≤ 18446744073709551615 = omega (arith, one, more, room, some, inside) in
    grind (arith, small)
