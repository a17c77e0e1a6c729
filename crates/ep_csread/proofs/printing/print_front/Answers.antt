use Rattle.std.proofs.Common.{◌≡◌, ◌++◌, ◌∷◌, [], List, ℕ, ap, ◌∙◌, append_assoc}
use Rattle.ep_units.specs.Base36.{write36}
use Rattle.ep_units.specs.Text.{Text}
use Rattle.ep_cs.specs.Change.{bank_of}
use Rattle.ep_cs.specs.Spelling.{difference_text, old_len, new_len}
use Rattle.ep_cs.specs.declared.op.Op.{Op}
use Rattle.ep_csread.specs.Spelling.{ops_text, printed}
use Rattle.ep_csread.proofs.printing.print_front.Goals as goal

pub returns : goal.returns
returns g c =
    let edit = c.args.change.now.edit in
    let pairs = c.args.pool.now.pairs in
    let digits = write36 c.old_len.result in
    let longer : Text = difference_text c.old_len.result c.new_len.result in
    let ops : Text = ops_text pairs c.ops.result.now in
    let lengths : Text = 90 ∷ 58 ∷ (digits ++ longer) in
    let bank = bank_of edit in
    let first = g.S.Spell.spelled c.args.out.now in
    let front : Text = lengths ++ (ops ++ 36 ∷ []) in
    let added : g.S.Spell.spelled c.put.new.self ≡ first ++ front =
    c.in_ok-put.ensures.put
    ∙ ap (λ (us : Text). us ++ 36 ∷ []) (c.in_ok-write_ops.ensures ∙ ap (λ (us : Text). us ++ ops) c.in_ok-write_lengths.ensures)
    ∙ append_assoc (first ++ lengths) ops (36 ∷ []) ∙ append_assoc first lengths (ops ++ 36 ∷ []) in
    let spelled : ℕ → ℕ → List Op → Text = λ old new runs. 90 ∷ 58 ∷ (write36 old ++ (difference_text old new ++ (ops_text pairs runs ++ 36 ∷ bank))) in
    let whole : front ++ bank ≡ printed pairs c.args.change.now =
    ap (λ (us : Text). 90 ∷ 58 ∷ us) (
    append_assoc (digits ++ longer) (ops ++ 36 ∷ []) bank ∙ ap (λ (us : Text). (digits ++ longer) ++ us) (append_assoc ops (36 ∷ []) bank)
    ∙ append_assoc digits longer (ops ++ 36 ∷ bank)
    )
    ∙ ap (λ (n : ℕ). spelled n c.new_len.result c.ops.result.now) c.old_len.ensures
    ∙ ap (λ (n : ℕ). spelled (old_len edit) n c.ops.result.now) c.new_len.ensures
    ∙ ap (spelled (old_len edit) (new_len edit)) c.ops.ensures.runs in
    (front, added, whole)
