use Rattle.std.proofs.Common.{◌≡◌, ◌+◌, ◌-◌, ◌≤◌, ◌<◌, ◌^◌, ◌++◌, List, ℕ, true, length, take, drop, ◌∙◌, sym, ap, rules, arith, length-append, length-drop}
use Rattle.ep_fields.specs.Bytes.{count}
use Rattle.ep_fields.specs.Writing.{begun, is_ascii}
use Rattle.ep_fields.proofs.Ascii.{room_filled, begun_kept, front_kept}
use Rattle.ep_fields.proofs.Spelled.{ascii_both}
use Rattle.ep_fields.proofs.writing.end_text.Goals as goal

pub returns-else-not-ascii-clause-put : goal.returns-else-not-ascii-clause-put
returns-else-not-ascii-clause-put c ascii =
    let old = c.args.out.now.items in
    let at = c.args.at in
    let rest = c.args.rest.now in
    let n = c.resize.new.self.len in
    let whole = c.deref_mut.result.now in
    let front = c.split_at_mut-added.result.0.now in
    let bytes = c.set_text-ascii.new.bytes in
    let us = drop (at + 4) old ++ rest in
    let made = c.deref_mut.ensures.value ∙ c.in_ok-resize.ensures.items in
    let inside : at + 4 ≤ length old = c.requires.room in
    let all : n ≡ length old + length rest = omega (arith, c.in_ok-resize.ensures.len, c.len.ensures, inside) in
    let size : length whole ≡ length old + length rest = omega (arith, all, c.deref_mut.ensures.len) in
    let m = at + 4 + ((c.len.result - at) - 4 + length rest) in
    let more : length old ≤ m = omega (arith, c.len.ensures, inside) in
    let kept : begun c.split_at_mut-added.result.1.now (length rest) ≡ drop (at + 4) old =
    ap (λ (bs : List ℕ). begun bs (length rest)) c.split_at_mut-added.ensures.back ∙ begun_kept old _ whole at m (length rest) inside more size made in
    let first : front ≡ take at old = c.split_at_mut-added.ensures.front ∙ front_kept old _ whole at m (omega (arith, inside)) more made in
    let set : bytes ≡ count (length us) ++ us = c.set_text-ascii.ensures.bytes ascii ∙ ap (λ (bs : List ℕ). count (length (bs ++ rest)) ++ (bs ++ rest)) kept in
    let is : is_ascii us ≡ true = ascii_both (drop (at + 4) old) rest c.requires.front (sym c.set_text-ascii.ensures.ascii ∙ ascii) in
    let sum : n ≡ length front + length bytes = search rules in
    let few : length us < 2 ^ 32 = omega (arith, length-append (drop (at + 4) old) rest, length-drop (at + 4) old, c.if-units-gt-MOST_BYTES.false, c.len.ensures, inside) in
    room_filled (take at old) us front bytes _ n first set (sum ∙ sym (length-append front bytes)) is few
