use Rattle.std.proofs.Common.{sym}
use Rattle.ep_history.specs.Kept.{KeptClient}
use Rattle.ep_peer.specs.Writer.{Goes, Opening, Reading, written}
use Rattle.ep_peer.specs.declared.writer.Written.{Written}
use Rattle.ep_peer.proofs.Cutting.{writes_as, writes_behind, writes_ended, writes_refused, writes_short}
use Rattle.ep_peer.proofs.Parting.{err_is}
use Rattle.ep_peer.proofs.writer.write_session.Goals as goal

pub returns-in_err-client-clause-writes : goal.returns-in_err-client-clause-writes
returns-in_err-client-clause-writes g c =
    let t = g.L.Link.traffic in
    writes_ended (t c.args.link.now) (t c.enter.new.link) (g.S.Source.left c.args.source.now) (Goes (Opening c.args.pad.now c.args.token.now)) c.enter.result (λ (k : KeptClient). Goes (Reading 0 k)) c.from_residual.result _ c.in_err-client.field-0.0
    c.in_err-client.was (err_is _ _ c.from_residual.ensures.1) c.enter.ensures.done

pub returns-in_err-write_lines-clause-writes : goal.returns-in_err-write_lines-clause-writes
returns-in_err-write_lines-clause-writes g c =
    let t = g.L.Link.traffic in
    let left = g.S.Source.left c.args.source.now in
    let from = Goes (Opening c.args.pad.now c.args.token.now) in
    let new = c.write_lines.new in
    writes_refused (t c.args.link.now) (t new.link) left from c.write_lines.result (λ _. written new.client) c.from_residual-in_err-write_lines.result _ c.in_err-write_lines.field-0.0
    c.in_err-write_lines.was (err_is _ _ c.from_residual-in_err-write_lines.ensures.1)
    (writes_behind (t c.args.link.now) (t c.enter.new.link) (t new.link) left from c.in_ok-client.client (λ (k : KeptClient). Goes (Reading 0 k)) c.write_lines.result (λ _. written new.client) c.in_ok-client.ensures.done c.write_lines.ensures.writes)

pub returns-in_err-shown-clause-writes : goal.returns-in_err-shown-clause-writes
returns-in_err-shown-clause-writes g c =
    let t = g.L.Link.traffic in
    let left = g.S.Source.left c.args.source.now in
    let from = Goes (Opening c.args.pad.now c.args.token.now) in
    let new = c.write_lines.new in
    writes_short (t c.args.link.now) (t new.link) left from c.write_lines.result (λ _. written new.client) c.from_residual-in_err-shown.result _ (err_is _ _ c.from_residual-in_err-shown.ensures.1)
    (writes_behind (t c.args.link.now) (t c.enter.new.link) (t new.link) left from c.in_ok-client.client (λ (k : KeptClient). Goes (Reading 0 k)) c.write_lines.result (λ _. written new.client) c.in_ok-client.ensures.done c.write_lines.ensures.writes)

pub returns-clause-writes : goal.returns-clause-writes
returns-clause-writes g c =
    let t = g.L.Link.traffic in
    let left = g.S.Source.left c.args.source.now in
    let from = Goes (Opening c.args.pad.now c.args.token.now) in
    let new = c.write_lines.new in
    writes_as (t c.args.link.now) (t new.link) left from c.in_ok-write_lines.field-0 (λ _. written new.client) c.in_ok-shown.field-0 (λ (w : Written). w) (sym c.in_ok-shown.ensures)
    (writes_behind (t c.args.link.now) (t c.enter.new.link) (t new.link) left from c.in_ok-client.client (λ (k : KeptClient). Goes (Reading 0 k)) _ (λ _. written new.client) c.in_ok-client.ensures.done c.in_ok-write_lines.ensures.writes)
