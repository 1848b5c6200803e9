use Rattle.hsm_types.proofs.Queues.{places-created, places-destroyed, places-disposed, places-posted, places-delivered}
use Rattle.hsm_types.proofs.Queues.{places-responded-other, places-answered, places-user_event, places-sent}
use Rattle.dm_sessions.proofs.laws.stands_once.Goals as goal

pub returns : goal.returns
returns c t u up real = record {
  created = λ old info. places-created u old info t;
  ended = λ sid none. places-destroyed u sid t none;
  disposed = λ sid kinds living. places-disposed u sid kinds t living;
  given = λ m. places-posted u m t;
  handed_out = λ sid count. places-delivered u sid count t real;
  others_answered = λ sid token apart. places-responded-other u sid token t apart;
  answered = λ sid own once. places-answered sid u 0 t.given t up once own;
  made = λ sid token body living. places-user_event u sid token body t living;
  said = λ target body. places-sent u target body t real;
}
