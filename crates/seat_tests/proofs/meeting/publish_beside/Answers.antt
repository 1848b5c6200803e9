use Rattle.std.proofs.Common.{ℕ, List, [], ◌∷◌}
use denote.Exit.{no}
use denote.Param.Send.{IsSend, IsSync, arg_send, param_send, recorded_sync, shr_send}
use denote.Param.SendFields.{declared_send, as_row_send}
use denote.RattleType.{RattleType}
use denote.Struct.Field.{row_field}
use denote.Struct.Tuple.{TupleAt, type_at}
use Rattle.plain_model.specs.contracts.entries.Entry.{the_row as entry_row, the_type as entry_type}
use Rattle.plain_model.proofs.entries.Entry.TheSendSync.{the_field_sync as entry_sync}
use Rattle.call_seats.proofs.desk.Desk.TheSendSync.{the_sync as desk_sync}
use Rattle.call_seats.proofs.passes.Pass.TheSendSync.{the_send as pass_send}
use Rattle.seat_tests.proofs.meeting.publish_beside.Goals as goal

-- a closure over four things
four_send : (name : List ℕ) (A B C E : RattleType) → IsSend A → IsSend B → IsSend C → IsSend E → IsSend (TupleAt name (A ∷ B ∷ C ∷ E ∷ []))
four_send name A B C E a b c e = declared_send (type_at name (A ∷ B ∷ C ∷ E ∷ [])) (as_row_send (row_field A) a, (as_row_send (row_field B) b, (as_row_send (row_field C) c, (as_row_send (row_field E) e, tt))))

entry_row_sync : IsSync entry_row
entry_row_sync = recorded_sync _ _ _ entry_type.to_one entry_sync

pub join-pen-requires-send-F : goal.join-pen-requires-send-F
join-pen-requires-send-F g c κs within =
    param_send 1 _ (arg_send _ no _ (four_send _ _ _ _ _ (shr_send _ _ _ desk_sync) pass_send pass_send (shr_send _ _ _ entry_row_sync)))
