-- Working words of private contracts: what such a client in code holds.
use Rattle.std.specs.Prelude.{◌+◌, ◌≤◌, List, [], length, refl}
use Rattle.std.specs.Coded.{Coded, coded_list, coded×, code_by}
use Rattle.ep_cs.specs.Codes.{coded_edit}
use Rattle.ep_cs.specs.Doc.{Doc}
use Rattle.ep_cs.specs.Edit.{Edit}
use Rattle.ep_client.specs.Codes.{coded_kept}
use Rattle.ep_history.specs.Kept.{KeptClient}
use Rattle.ep_undo.specs.Undo.{UndoState}
use Rattle.ep_undo.specs.Stacks.{edits_of, all_down, stood, IsWay, IsStackOf}
use Rattle.ep_undo.specs.declared.client.UndoClient.TheInside as client

abbrev pub coded_undo : Coded UndoState
coded_undo =
    code_by (KeptClient × (List Edit × List Edit)) (coded× coded_kept (coded× (coded_list coded_edit) (coded_list coded_edit)))
    (λ s. (s.client, (s.undos, s.redos))) (λ p. record { client = p.0; undos = p.1.0; redos = p.1.1 }) (λ _. refl)

-- the state that it stands for: what was heard lately goes down both stacks
abbrev pub held : client.Inside → UndoState
held c = record {
  client = c.client;
  undos = all_down (edits_of c.recent.items) (stood c.undos.records.items []);
  redos = all_down (edits_of c.recent.items) (stood c.redos.records.items []);
}

-- what was heard lately leads to the view, and the stacks are of the view before that
pub record IsHeld (c : client.Inside) : Type 0 where
  pub before : Doc
  pub recent : IsWay c.recent.items before c.client.view
  pub undos : IsStackOf c.undos.records.items before
  pub redos : IsStackOf c.redos.records.items before
  pub short : length c.undos.records.items + length c.redos.records.items ≤ 100
