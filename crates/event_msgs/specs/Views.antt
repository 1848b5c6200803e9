-- What a view shows of a message.
use Rattle.std.specs.Prelude.{ℕ, List}
use Rattle.std.specs.Borrow.{Bor}
use Rattle.hsm_types.specs.Messages.{handle_or_none}
use Rattle.hsm_types.specs.declared.dm.Kind.{Kind}
use Rattle.hsm_types.specs.declared.keys.Token.{Token}
use Rattle.hsm_types.specs.declared.messages.Message.{Message}
use Rattle.event_msgs.specs.declared.message_view.View.{View}
use Rattle.event_msgs.specs.declared.reading.Header.{Header}

-- the handle as its bytes, none for a message without one
pub record Shown : Type 0 where
  pub kind : Kind
  pub token : Token
  pub handle : List ℕ
  pub offset : ℕ
  pub length : ℕ
  pub body : List ℕ

-- of a message
abbrev pub shown : Message → Shown
shown m = record { kind = m.kind; token = m.token; handle = handle_or_none m.handle; offset = m.offset; length = m.length; body = m.body }

-- in a view
abbrev pub seen : View → Shown
seen v = record { kind = v.kind; token = v.token; handle = v.handle.now; offset = v.offset; length = v.length; body = v.body.now }

-- the same with the rest of the bytes behind the message
abbrev pub shown_before : Message × List ℕ → Shown × List ℕ
shown_before x = (shown x.0, x.1)

abbrev pub seen_before : View × Bor (List ℕ) → Shown × List ℕ
seen_before x = (seen x.0, x.1.now)

abbrev pub shown_frame : Header × Bor (List ℕ) × Bor (List ℕ) → Header × List ℕ × List ℕ
shown_frame f = (f.0, f.1.now, f.2.now)
