use Rattle.std.proofs.Common.{◌≡◌, ◌++◌, ◌∷◌, [], cond, ap, ◌∙◌, sym}
use Rattle.ep_pool.specs.Pool.{pair_of}
use Rattle.ep_pool.proofs.Found.{is_absent, is_there, number_absent}
use Rattle.ep_pool.proofs.pool.Pool.put.Goals as goal

pub returns-in-Some-clause-number : goal.returns-in-Some-clause-number
returns-in-Some-clause-number c = sym (is_there c.args.self.now.pairs (pair_of c.args.attr) c.in-Some.number (sym c.in-Some.ensures)).number

pub returns-in-Some-clause-pairs : goal.returns-in-Some-clause-pairs
returns-in-Some-clause-pairs c =
    let ps = c.args.self.now.pairs in
    let p = pair_of c.args.attr in
    sym (ap (λ b. cond b ps (ps ++ p ∷ [])) (is_there ps p c.in-Some.number (sym c.in-Some.ensures)).has_it)

pub append-requires-clause-new : goal.append-requires-clause-new
append-requires-clause-new c = is_absent c.args.self.now.pairs (pair_of c.args.attr) (sym c.in-None.ensures)

pub append-requires-clause-room : goal.append-requires-clause-room
append-requires-clause-room c = c.requires.room (is_absent c.args.self.now.pairs (pair_of c.args.attr) (sym c.in-None.ensures))

pub append-requires-clause-few : goal.append-requires-clause-few
append-requires-clause-few c = c.requires.few (is_absent c.args.self.now.pairs (pair_of c.args.attr) (sym c.in-None.ensures))

pub returns-in-None-clause-number : goal.returns-in-None-clause-number
returns-in-None-clause-number c =
    let ps = c.args.self.now.pairs in
    c.append.ensures.number ∙ sym (number_absent ps (pair_of c.args.attr) (is_absent ps (pair_of c.args.attr) (sym c.in-None.ensures)))

pub returns-in-None-clause-pairs : goal.returns-in-None-clause-pairs
returns-in-None-clause-pairs c =
    let ps = c.args.self.now.pairs in
    let p = pair_of c.args.attr in
    c.append.ensures.pairs ∙ sym (ap (λ b. cond b ps (ps ++ p ∷ [])) (is_absent ps p (sym c.in-None.ensures)))
