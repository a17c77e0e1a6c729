use Rattle.std.proofs.Common.{◌++◌, ap, ◌∙◌}
use Rattle.json.specs.Print.{print}
use Rattle.serde_json.proofs.Texts.{print-outline}
use Rattle.ep_wire_words.specs.ServerJson.{server_json}
use Rattle.ep_wire.specs.Tokens.{said}
use Rattle.ep_wire.proofs.Back.{said_read}
use Rattle.ep_wire.proofs.server_writer.write_server.Goals as goal

pub returns-clause-text : goal.returns-clause-text
returns-clause-text c =
    let d = server_json c.args.msg.now in
    c.finish.ensures.text ∙ ap print (c.in_ok-message.ensures.tokens ∙ ap (λ ts. ts ++ said d) c.in_ok-out.ensures) ∙ print-outline d

pub returns-clause-reads : goal.returns-clause-reads
returns-clause-reads c =
    let d = server_json c.args.msg.now in
    said_read d _ (c.finish.ensures.tokens ∙ c.in_ok-message.ensures.tokens ∙ ap (λ ts. ts ++ said d) c.in_ok-out.ensures) c.in_ok-message.ensures.back
