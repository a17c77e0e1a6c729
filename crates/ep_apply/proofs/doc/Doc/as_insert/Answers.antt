use Rattle.std.proofs.Common.{◌≡◌, ◌<◌, ◌^◌, ◌+◌, ◌∙◌, length, ap, subst, arith, IfOk}
use Rattle.ep_cs.specs.Draft.{Draft, blank, inserted_by}
use Rattle.ep_cs.specs.Change.{Change}
use Rattle.ep_apply.specs.Documents.{inserting_all}
use Rattle.ep_apply.proofs.Inserted.{more_inserting, insert_short, inserted_whole, is_insertion, inserted_length, inserted_pieces}
use Rattle.ep_apply.proofs.doc.Doc.as_insert.Goals as goal

pub insert-requires : goal.insert-requires
insert-requires c =
    let start = c.new-builder.result in
    let short : inserted_by start.steps + length c.args.self.now < 2 ^ 32 = omega (arith, ap (λ (d : Draft). inserted_by d.steps) c.new-builder.ensures, c.reading-rest.ensures.short) in
    insert_short c.args.self.now start c.stretches.builder c.in-Some.stretch.attrs.now c.in-Some.stretch.text.now c.stretches.rest c.take.new.self c.stretches.invariant c.in-Some.ensures.0 short

pub stretches-preserved : goal.stretches-preserved
stretches-preserved c =
    more_inserting c.args.self.now c.new-builder.result c.stretches.builder c.insert.new.self c.in-Some.stretch.attrs.now c.in-Some.stretch.text.now c.stretches.rest c.take.new.self c.stretches.invariant c.in-Some.ensures.0 c.in_ok-insert.ensures.ok

pub finish-requires-clause-short : goal.finish-requires-clause-short
finish-requires-clause-short c =
    let told : c.stretches.builder ≡ inserting_all (blank 0) c.args.self.now = inserted_whole c.args.self.now c.new-builder.result c.stretches.builder c.stretches.rest c.stretches.invariant c.in_default.ensures.0 ∙ ap (λ (d : Draft). inserting_all d c.args.self.now) c.new-builder.ensures in
    inserted_length c.args.self.now c.stretches.builder told c.reading-rest.ensures.short

pub finish-requires-clause-pieces : goal.finish-requires-clause-pieces
finish-requires-clause-pieces c =
    let told : c.stretches.builder ≡ inserting_all (blank 0) c.args.self.now = inserted_whole c.args.self.now c.new-builder.result c.stretches.builder c.stretches.rest c.stretches.invariant c.in_default.ensures.0 ∙ ap (λ (d : Draft). inserting_all d c.args.self.now) c.new-builder.ensures in
    inserted_pieces c.args.self.now c.stretches.builder told c.reading-rest.ensures.document.pairs

pub returns : goal.returns
returns c =
    let told : c.stretches.builder ≡ inserting_all (blank 0) c.args.self.now = inserted_whole c.args.self.now c.new-builder.result c.stretches.builder c.stretches.rest c.stretches.invariant c.in_default.ensures.0 ∙ ap (λ (d : Draft). inserting_all d c.args.self.now) c.new-builder.ensures in
    subst (λ (x : Change). IfOk c.finish.result (λ change. change ≡ x)) (is_insertion c.args.self.now c.stretches.builder told) c.finish.ensures
