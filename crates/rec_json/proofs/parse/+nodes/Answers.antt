use Rattle.std.proofs.Common.{◌≡◌, ◌-◌, ◌<◌, [], ◌∷◌, ℕ, List, Option, None, Some, Result, Ok}
use Rattle.std.proofs.Common.{Err, IsErrAnd, Bor, length, option_map, sym, ap, ◌∙◌, arith}
use Rattle.json.proofs.Grammar.{after_end_array-shorter, read_key-shorter}
use Rattle.json.specs.Json.{after_end_array, items, members, parse_map, read_key, value}
use Rattle.json.specs.Reads.{token_of}
use Rattle.json.specs.Token.{Token, begin_array, begin_object}
use Rattle.serde_json.specs.Data.{array, object}
use Rattle.serde_json.specs.Read.{converted, of_items, of_json}
use Rattle.rec_json.proofs.Found.{after, after-none, after-nothing, after-one_more}
use Rattle.rec_json.proofs.Found.{members_view-one_more, view-Array, view-Object}
use Rattle.rec_json.proofs.parse.+nodes.Goals as goal
use Rattle.rec_json.proofs.ReadSteps.{array_too_deep, at_array, at_object, at_scalar, into}
use Rattle.rec_json.proofs.ReadSteps.{items_closed, members_closed, no_item, no_key, no_member}
use Rattle.rec_json.proofs.ReadSteps.{nothing_left, object_too_deep, one_item, one_member}
use Rattle.rec_json.specs.declared.errors.ReadError.TheVariants.{Invalid, OutOfMemory}
use Rattle.rec_json.specs.declared.errors.ReadError.{ReadError}
use Rattle.rec_json.specs.Nodes.{members_view, view}

-- a key that was read, by what it was found to be
named_as : (ts r : List Token) (k is : Option (Bor (List ℕ)))
    → read_key ts ≡ Some (option_map (λ s. s.now) k, r) → k ≡ is
    → read_key ts ≡ Some (option_map (λ s. s.now) is, r)
named_as ts r k is read same =
    read ∙ ap (λ (o : Option (Bor (List ℕ))). Some (option_map (λ s. s.now) o, r)) same

-- want of memory is no refusal of the text
never_invalid : {T : Type 0} (P : Type 0) (r : Result T ReadError)
    → IsErrAnd r (λ e. e ≡ OutOfMemory) → r ≡ Err Invalid → P
never_invalid P (Ok x) h bad = absurd cc
never_invalid P (Err e) h bad = absurd cc

-- ---- one value

pub read_node-returns-in_default-clause-err : goal.read_node-returns-in_default-clause-err
read_node-returns-in_default-clause-err t c = λ refused.
    let empty : c.args.reader.now ≡ [] = c.in_default.ensures.value.0 in
    ap (λ ts. converted of_json (value c.args.depth ts)) empty ∙ nothing_left c.args.depth

pub read_node-returns-then-depth-eq0-clause-err : goal.read_node-returns-then-depth-eq0-clause-err
read_node-returns-then-depth-eq0-clause-err t c = λ refused.
    let first : c.args.reader.now ≡ begin_array ∷ c.next.new.self =
    c.in-Some.ensures.value ∙ ap (λ k. token_of k ∷ c.next.new.self) c.in-BeginArray.is in
    ap (λ ts. converted of_json (value c.args.depth ts)) first
    ∙ array_too_deep c.args.depth c.next.new.self (omega arith)

pub read_node-returns-then-depth-eq0-2-clause-err :
    goal.read_node-returns-then-depth-eq0-2-clause-err
read_node-returns-then-depth-eq0-2-clause-err t c = λ refused.
    let first : c.args.reader.now ≡ begin_object ∷ c.next.new.self =
    c.in-Some.ensures.value ∙ ap (λ k. token_of k ∷ c.next.new.self) c.in-BeginObject.is in
    ap (λ ts. converted of_json (value c.args.depth ts)) first
    ∙ object_too_deep c.args.depth c.next.new.self (omega arith)

pub read_node-returns-in_err-read_items-in-BeginArray-clause-err :
    goal.read_node-returns-in_err-read_items-in-BeginArray-clause-err
read_node-returns-in_err-read_items-in-BeginArray-clause-err t c = λ refused.
    let first : c.args.reader.now ≡ begin_array ∷ c.next.new.self =
    c.in-Some.ensures.value ∙ ap (λ k. token_of k ∷ c.next.new.self) c.in-BeginArray.is in
    ap (λ ts. converted of_json (value c.args.depth ts)) first
    ∙ at_array c.args.depth c.next.new.self (omega arith)
    ∙ ap (parse_map array) (c.read_items.ensures.err (grind arith))

pub read_node-returns-in_err-read_members-in-BeginObject-clause-err :
    goal.read_node-returns-in_err-read_members-in-BeginObject-clause-err
read_node-returns-in_err-read_members-in-BeginObject-clause-err t c = λ refused.
    let first : c.args.reader.now ≡ begin_object ∷ c.next.new.self =
    c.in-Some.ensures.value ∙ ap (λ k. token_of k ∷ c.next.new.self) c.in-BeginObject.is in
    ap (λ ts. converted of_json (value c.args.depth ts)) first
    ∙ at_object c.args.depth c.next.new.self (omega arith)
    ∙ ap (parse_map object) (c.read_members.ensures.err (grind arith))

pub read_node-returns-in_ok-read_items-in-BeginArray-clause-ok :
    goal.read_node-returns-in_ok-read_items-in-BeginArray-clause-ok
read_node-returns-in_ok-read_items-in-BeginArray-clause-ok t c =
    let first : c.args.reader.now ≡ begin_array ∷ c.next.new.self =
    c.in-Some.ensures.value ∙ ap (λ k. token_of k ∷ c.next.new.self) c.in-BeginArray.is in
    let found = c.in_ok-read_items-in-BeginArray in
    ap (λ ts. converted of_json (value c.args.depth ts)) first
    ∙ at_array c.args.depth c.next.new.self (omega arith) ∙ ap (parse_map array) found.ensures.ok
    ∙ ap (λ d. Some (d, c.read_items.new.reader)) (sym (view-Array found.field-0))

pub read_node-returns-in_ok-read_members-in-BeginObject-clause-ok :
    goal.read_node-returns-in_ok-read_members-in-BeginObject-clause-ok
read_node-returns-in_ok-read_members-in-BeginObject-clause-ok t c =
    let first : c.args.reader.now ≡ begin_object ∷ c.next.new.self =
    c.in-Some.ensures.value ∙ ap (λ k. token_of k ∷ c.next.new.self) c.in-BeginObject.is in
    let found = c.in_ok-read_members-in-BeginObject in
    ap (λ ts. converted of_json (value c.args.depth ts)) first
    ∙ at_object c.args.depth c.next.new.self (omega arith) ∙ ap (parse_map object) found.ensures.ok
    ∙ ap (λ d. Some (d, c.read_members.new.reader)) (sym (view-Object found.field-0))

pub read_node-returns-in-Some-scalar-clause-ok : goal.read_node-returns-in-Some-scalar-clause-ok
read_node-returns-in-Some-scalar-clause-ok t c =
    ap (λ ts. converted of_json (value c.args.depth ts)) c.in-Some.ensures.value
    ∙ at_scalar c.args.depth c.in-Some.token c.next.new.self c.in_default-token.not-BeginArray
    c.in_default-token.not-BeginObject
    ∙ ap (option_map (λ d. (d, c.next.new.self))) (sym c.in-Some-scalar.ensures)

pub read_node-returns-in-None-clause-err : goal.read_node-returns-in-None-clause-err
read_node-returns-in-None-clause-err t c = λ refused.
    ap (λ ts. converted of_json (value c.args.depth ts)) c.in-Some.ensures.value
    ∙ at_scalar c.args.depth c.in-Some.token c.next.new.self c.in_default-token.not-BeginArray
    c.in_default-token.not-BeginObject
    ∙ ap (option_map (λ d. (d, c.next.new.self))) (sym c.in-None.ensures)

pub read_node-returns-in_ok-read_items-in-BeginArray-clause-shorter :
    goal.read_node-returns-in_ok-read_items-in-BeginArray-clause-shorter
read_node-returns-in_ok-read_items-in-BeginArray-clause-shorter t c =
    omega
    (arith, ap length c.in-Some.ensures.value, (c.in_ok-read_items-in-BeginArray).ensures.shorter)

pub read_node-returns-in_ok-read_members-in-BeginObject-clause-shorter :
    goal.read_node-returns-in_ok-read_members-in-BeginObject-clause-shorter
read_node-returns-in_ok-read_members-in-BeginObject-clause-shorter t c = omega (
  arith,
  ap length c.in-Some.ensures.value,
  (c.in_ok-read_members-in-BeginObject).ensures.shorter,
)

-- ---- lists

pub read_items-items-init : goal.read_items-items-init
read_items-items-init t c =
    let all =
    converted of_items (items (value c.args.depth) (length c.args.reader.now) c.args.reader.now) in
    record {
      turns = length c.args.reader.now;
      enough = omega arith;
      whole = after-none all ∙ ap (λ es. after es all) (sym c.new-found.ensures.items);
      shorter = omega arith;
    }

pub read_items-items-smaller : goal.read_items-items-smaller
read_items-items-smaller t c =
    let going : (after_end_array c.items.reader ≡ None)
    × (c.take_end_array.new.self ≡ c.items.reader) =
    c.items-test.ensures in
    rw (← going.1) c.in_ok-item.ensures.shorter

pub read_items-returns-in_err-push-clause-err : goal.read_items-returns-in_err-push-clause-err
read_items-returns-in_err-push-clause-err t c =
    never_invalid _ c.from_residual-in_err-push.result c.from_residual-in_err-push.ensures.1

pub read_items-returns-clause-shorter : goal.read_items-returns-clause-shorter
read_items-returns-clause-shorter t c =
    let less =
    after_end_array-shorter c.items.reader c.take_end_array.new.self c.items-test.ensures in
    omega (arith, c.items.invariant.shorter, less)

pub read_items-returns-in_err-item-clause-err : goal.read_items-returns-in_err-item-clause-err
read_items-returns-in_err-item-clause-err t c = λ refused.
    let i = c.items.invariant in
    let going : (after_end_array c.items.reader ≡ None)
    × (c.take_end_array.new.self ≡ c.items.reader) =
    c.items-test.ensures in
    i.whole ∙ ap (after c.items.found.items) (no_item (value c.args.depth)
    i.turns c.items.reader going.0 (rw (← going.1) (c.read_node.ensures.err (grind arith))))

pub read_items-items-preserved : goal.read_items-items-preserved
read_items-items-preserved t c =
    let p = value c.args.depth in
    let i = c.items.invariant in
    let found = c.items.found.items in
    let going : (after_end_array c.items.reader ≡ None)
    × (c.take_end_array.new.self ≡ c.items.reader) =
    c.items-test.ensures in
    let v = c.in_ok-item.item in
    let r = c.read_node.new.reader in
    let less : length r < length c.items.reader = rw (← going.1) c.in_ok-item.ensures.shorter in
    let turn = one_item p i.turns c.items.reader r (view v) (omega (arith, i.enough, less)) going.0
    (rw (← going.1) c.in_ok-item.ensures.ok) in
    record {
      turns = i.turns - 1;
      enough = omega (arith, i.enough, less);
      whole =
          i.whole ∙ ap (after found) turn ∙ after-one_more found v _
          ∙ ap (λ vs. after vs (converted of_items (items p (i.turns - 1) r)))
          (sym c.in_ok-push.ensures.items);
      shorter = omega (arith, i.shorter, less);
    }

pub read_items-returns-clause-ok : goal.read_items-returns-clause-ok
read_items-returns-clause-ok t c =
    let i = c.items.invariant in
    let r = c.take_end_array.new.self in
    i.whole ∙ ap (after c.items.found.items)
    (items_closed (value c.args.depth) i.turns c.items.reader r i.enough c.items-test.ensures)
    ∙ after-nothing c.items.found.items r

-- ---- objects

pub read_members-members-init : goal.read_members-members-init
read_members-members-init t c =
    let all = members (value c.args.depth) (length c.args.reader.now) c.args.reader.now in
    record {
      turns = length c.args.reader.now;
      enough = omega arith;
      whole = ap (λ es. converted (into (members_view es)) all) (sym c.new-found.ensures.items);
      shorter = omega arith;
    }

pub read_members-returns-in_err-key-clause-err : goal.read_members-returns-in_err-key-clause-err
read_members-returns-in_err-key-clause-err t c = λ refused.
    let i = c.members.invariant in
    i.whole ∙ no_key (value c.args.depth) (members_view c.members.found.items)
    i.turns c.members.reader c.in_err-key.ensures.value

pub read_members-returns-in_err-member-clause-err :
    goal.read_members-returns-in_err-member-clause-err
read_members-returns-in_err-member-clause-err t c = λ refused.
    let i = c.members.invariant in
    let k = c.in-Some.key.now in
    let s = c.next_key.new.self in
    let named = named_as c.members.reader s c.in_ok-key.field-0 (Some c.in-Some.key)
    c.in_ok-key.ensures.value c.in-Some.is in
    i.whole ∙ no_member (value c.args.depth) (members_view c.members.found.items)
    i.turns k c.members.reader s named (c.read_node.ensures.err (grind arith))

pub read_members-members-preserved : goal.read_members-members-preserved
read_members-members-preserved t c =
    let p = value c.args.depth in
    let i = c.members.invariant in
    let found = c.members.found.items in
    let k = c.in-Some.key.now in
    let s = c.next_key.new.self in
    let named = named_as c.members.reader s c.in_ok-key.field-0 (Some c.in-Some.key)
    c.in_ok-key.ensures.value c.in-Some.is in
    let v = c.in_ok-member.member in
    let r = c.read_node.new.reader in
    let key_less = read_key-shorter c.members.reader (Some k) s named in
    let less : length r < length c.members.reader =
    omega (arith, key_less, c.in_ok-member.ensures.shorter) in
    let turn = one_member p (members_view found) i.turns k c.members.reader s r (view v)
    (omega (arith, i.enough, less)) named c.in_ok-member.ensures.ok in
    let put_in = members_view-one_more found c.in-Some.key v in
    record {
      turns = i.turns - 1;
      enough = omega (arith, i.enough, less);
      whole = i.whole ∙ turn ∙ ap (λ ms. converted (into ms) (members p (i.turns - 1) r))
          (sym (ap members_view c.in_ok-push.ensures.items ∙ put_in));
      shorter = omega (arith, i.shorter, less);
    }

pub read_members-returns-clause-ok : goal.read_members-returns-clause-ok
read_members-returns-clause-ok t c =
    let i = c.members.invariant in
    i.whole ∙ members_closed (value c.args.depth) (members_view c.members.found.items)
    i.turns c.members.reader c.next_key.new.self i.enough
    (named_as c.members.reader c.next_key.new.self c.in_ok-key.field-0 None
    c.in_ok-key.ensures.value c.in_default.is)

pub read_members-members-smaller : goal.read_members-members-smaller
read_members-members-smaller t c =
    let s = c.next_key.new.self in
    let named = named_as c.members.reader s c.in_ok-key.field-0 (Some c.in-Some.key)
    c.in_ok-key.ensures.value c.in-Some.is in
    omega (
      arith,
      read_key-shorter c.members.reader (Some c.in-Some.key.now) s named,
      c.in_ok-member.ensures.shorter,
    )

pub read_members-returns-in_err-push-clause-err : goal.read_members-returns-in_err-push-clause-err
read_members-returns-in_err-push-clause-err t c =
    never_invalid _ c.from_residual-in_err-push.result c.from_residual-in_err-push.ensures.1

pub read_members-returns-clause-shorter : goal.read_members-returns-clause-shorter
read_members-returns-clause-shorter t c =
    let s = c.next_key.new.self in
    let named = named_as c.members.reader s c.in_ok-key.field-0 None c.in_ok-key.ensures.value
    c.in_default.is in
    omega (arith, read_key-shorter c.members.reader None s named, c.members.invariant.shorter)
