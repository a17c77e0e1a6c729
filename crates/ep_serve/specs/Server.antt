-- What job a caller gets.
use Rattle.ep_serve.specs.declared.work.Work.{Work}
use Rattle.ep_serve.specs.declared.work.Work.TheVariants.{Pad, Api}

module _ {S A : Type 0} where
  -- a caller of pads gets a session, and it is so
  abbrev pub IfPad : (S → Type 0) → Work S A → Type 0
  IfPad F (Pad s) = F s
  IfPad F (Api a) = ⊥

  -- a caller of the API gets an answer to a request, and it is so
  abbrev pub IfApi : (A → Type 0) → Work S A → Type 0
  IfApi F (Pad s) = ⊥
  IfApi F (Api a) = F a
