-- What of a far keeper may cross threads: what it knows of the keeper at its desk is for contracts alone.
use denote.RattleType.{RattleType}
use denote.Param.Send.{IsSend, sendable}
use denote.Param.SendFields.{declared_send, as_row_send}
use denote.Struct.Field.{row_field}
use Rattle.std.proofs.Crossing.{crosses}
use Rattle.rtrb.proofs.end.End.TheSendSync as end
use Rattle.ep_outside.specs.declared.device.Device as device
use Rattle.ep_outside.specs.declared.keeper.Keeper as keeper
use Rattle.ep_keep_far.specs.contracts.asked.Answer as answer
use Rattle.ep_keep_far.specs.contracts.asked.Asked as asked
use Rattle.ep_keep_far.specs.contracts.far_keeper.FarKeeper as far

asked_send : IsSend asked.the_row
asked_send = search (sendable, crosses) depth 100 fits 1000000

answer_send : (K : RattleType) → IsSend (answer.the_row K)
answer_send K = search (sendable, crosses) depth 100 fits 1000000

pub far_send : (R K : RattleType) (g : keeper.Ghosts K.Denot) (d : device.Ghosts K.Denot) → IsSend R → IsSend (far.the_row R K g d)
far_send R K g d r =
    declared_send (far.the_type R K g d) (
      as_row_send (row_field R) r,
      (
        search (sendable, crosses) depth 30,
        (
          search (sendable, crosses, asked_send) depth 100 fits 1000000,
          (
            search (sendable, crosses) depth 100 fits 1000000,
            (
              search (sendable, crosses, answer_send, end.the_send) depth 100 fits 1000000,
              (search (sendable, crosses) depth 30, (search (sendable, crosses) depth 30, tt)),
            ),
          ),
        ),
      ),
    )
