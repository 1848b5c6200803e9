-- A store that stands for a plain map still does after a sound effect.
use Rattle.std.proofs.Common.{◌≡◌, List, [], ◌∷◌, Bool, true, false, Option, Some, None, refl, ap}
use Rattle.std.specs.Prelude.{nat_lt, if◌then◌else◌, is_some, IfSome}
use Rattle.hsm_types.specs.declared.keys.FileKey.{FileKey}
use Rattle.hsm_types.specs.Keyed.{same_key, find_key, change_key, put_key, drop_key}
use Rattle.plain_model.specs.Effects.{Effect, Leaves, Makes, Drops, Writes, Resizes, Manages, Attaches, Detaches, Seals, Punches, Restores}
use Rattle.plain_model.specs.Plain.{File, listing, rebody, body_or_none, body_of, affected}
use Rattle.plain_model.specs.Sound.{IsSound}
use Rattle.plain_model.specs.State.{FileState, new_file, names_of, file_or_new, file_at, remade, affected_held}
use Rattle.plain_model.specs.Stands.{HasBody, IsFile, Stands}
use Rattle.plain_model.proofs.Sound.{sound_body, new_body}

-- ---- one file

remade_is : (e : Effect) (f : FileState) (g : File) → IsSound e f → IsFile f g → IsFile (remade e f) (record g { body = rebody e g.body })
remade_is e f g sound is = record { key = is.key; name = is.name; body = sound_body e f g.body sound is.body }

-- ---- lists

stands_if : (b c : Bool) (fs fs' : List FileState) (gs gs' : List File) → b ≡ c → Stands fs gs → Stands fs' gs' → Stands (if b then fs else fs') (if c then gs else gs')
stands_if true true fs fs' gs gs' e here there = here
stands_if false false fs fs' gs gs' e here there = there
stands_if true false fs fs' gs gs' e here there = cc
stands_if false true fs fs' gs gs' e here there = cc

put_stands : (f : FileState) (g : File) (fs : List FileState) (gs : List File) → IsFile f g → Stands fs gs → Stands (put_key (λ x. x.key) f fs) (put_key (λ x. x.key) g gs)
put_stands f g [] [] is h = (is, tt)
put_stands f g (x ∷ fs) (y ∷ gs) is h = stands_if (nat_lt f.key.ino x.key.ino) (nat_lt g.key.ino y.key.ino) _ _ _ _ (rw (is.key, h.0.key) refl) (is, h) (h.0, put_stands f g fs gs is h.1)
put_stands f g [] (y ∷ gs) is h = absurd h
put_stands f g (x ∷ fs) [] is h = absurd h

drop_stands : (k : FileKey) (fs : List FileState) (gs : List File) → Stands fs gs → Stands (drop_key (λ x. x.key) k fs) (drop_key (λ x. x.key) k gs)
drop_stands k [] [] h = tt
drop_stands k (x ∷ fs) (y ∷ gs) h = stands_if (same_key x.key k) (same_key y.key k) _ _ _ _ (ap (λ j. same_key j k) h.0.key) h.1 (h.0, drop_stands k fs gs h.1)
drop_stands k [] (y ∷ gs) h = absurd h
drop_stands k (x ∷ fs) [] h = absurd h

-- the effect is sound for the file with the key, if there is one
abbrev pub IsSoundAt : Effect → FileKey → List FileState → Type 0
IsSoundAt e k fs = IfSome (find_key (λ f. f.key) k fs) (IsSound e)

found : (k : FileKey) (o : Option FileState) (P : FileState → Type 0) → P (file_or_new k o) → IfSome o P
found k None P is = tt
found k (Some f) P is = is

pub sound_at : (e : Effect) (k : FileKey) (fs : List FileState) → IsSound e (file_at k fs) → IsSoundAt e k fs
sound_at e k fs sound = found k (find_key (λ f. f.key) k fs) (IsSound e) sound

change_if : (e : Effect) (k : FileKey) (b c : Bool) (f : FileState) (g : File) (fs fs' : List FileState) (gs gs' : List File) → b ≡ c → IfSome (if b then Some f else find_key (λ x. x.key) k fs) (IsSound e) → IsFile f g → Stands fs gs
    → (IsSoundAt e k fs → Stands fs' gs') → Stands (if b then remade e f ∷ fs else f ∷ fs') (if c then record g { body = rebody e g.body } ∷ gs else g ∷ gs')
change_if e k true true f g fs fs' gs gs' same sound is h later = (remade_is e f g sound is, h)
change_if e k false false f g fs fs' gs gs' same sound is h later = (is, later sound)
change_if e k true false f g fs fs' gs gs' same sound is h later = cc
change_if e k false true f g fs fs' gs gs' same sound is h later = cc

change_stands : (e : Effect) (k : FileKey) (fs : List FileState) (gs : List File) → IsSoundAt e k fs → Stands fs gs
    → Stands (change_key (λ f. f.key) k (remade e) fs) (change_key (λ g. g.key) k (λ g. record g { body = rebody e g.body }) gs)
change_stands e k [] [] sound h = tt
change_stands e k (x ∷ fs) (y ∷ gs) sound h =
    change_if e k (same_key x.key k) (same_key y.key k) x y fs _ gs _ (ap (λ j. same_key j k) h.0.key) sound h.0 h.1 (λ later. change_stands e k fs gs later h.1)
change_stands e k [] (y ∷ gs) sound h = absurd h
change_stands e k (x ∷ fs) [] sound h = absurd h

beside_if : (e : Effect) (k : FileKey) (b : Bool) (f : FileState) (g : File) (fs fs' : List FileState) (gs : List File) → IfSome (if b then Some f else find_key (λ x. x.key) k fs) (IsSound e) → IsFile f g
    → (IsSound e f → IsFile (remade e f) g) → Stands fs gs → (IsSoundAt e k fs → Stands fs' gs) → Stands (if b then remade e f ∷ fs else f ∷ fs') (g ∷ gs)
beside_if e k true f g fs fs' gs sound is same h later = (same sound, h)
beside_if e k false f g fs fs' gs sound is same h later = (is, later sound)

-- an effect that a plain map doesn't know
beside_stands : (e : Effect) (k : FileKey) (fs : List FileState) (gs : List File) → ((f : FileState) (g : File) → IsSound e f → IsFile f g → IsFile (remade e f) g) → IsSoundAt e k fs → Stands fs gs
    → Stands (change_key (λ f. f.key) k (remade e) fs) gs
beside_stands e k [] [] same sound h = tt
beside_stands e k (x ∷ fs) (y ∷ gs) same sound h = beside_if e k (same_key x.key k) x y fs _ gs sound h.0 (λ is. same x y is h.0) h.1 (λ later. beside_stands e k fs gs same later h.1)
beside_stands e k [] (y ∷ gs) same sound h = absurd h
beside_stands e k (x ∷ fs) [] same sound h = absurd h

pub affected_stands : (e : Effect) (k : FileKey) (fs : List FileState) (gs : List File) → IsSoundAt e k fs → Stands fs gs → Stands (affected_held e k fs) (affected e k gs)
affected_stands Leaves k fs gs sound h = h
affected_stands (Makes name) k fs gs sound h = put_stands (new_file k name) (record { key = k; name = name; body = [] }) fs gs (record { key = refl; name = refl; body = new_body k name }) h
affected_stands Drops k fs gs sound h = drop_stands k fs gs h
affected_stands (Writes o bytes) k fs gs sound h = change_stands (Writes o bytes) k fs gs sound h
affected_stands (Resizes n) k fs gs sound h = change_stands (Resizes n) k fs gs sound h
affected_stands (Restores j bytes) k fs gs sound h = change_stands (Restores j bytes) k fs gs sound h
affected_stands (Manages regions) k fs gs sound h = beside_stands (Manages regions) k fs gs (remade_is (Manages regions)) sound h
affected_stands (Attaches name value) k fs gs sound h = beside_stands (Attaches name value) k fs gs (remade_is (Attaches name value)) sound h
affected_stands (Detaches name) k fs gs sound h = beside_stands (Detaches name) k fs gs (remade_is (Detaches name)) sound h
affected_stands (Seals j entry) k fs gs sound h = beside_stands (Seals j entry) k fs gs (remade_is (Seals j entry)) sound h
affected_stands (Punches from to) k fs gs sound h = beside_stands (Punches from to) k fs gs (remade_is (Punches from to)) sound h

-- ---- what the store shares with the map

pub names_stand : (fs : List FileState) (gs : List File) → Stands fs gs → names_of fs ≡ listing gs
names_stand [] [] h = refl
names_stand (f ∷ fs) (g ∷ gs) h = let rest = names_stand fs gs h.1 in let key : f.key ≡ g.key = h.0.key in let name : f.name ≡ g.name = h.0.name in cc
names_stand [] (g ∷ gs) h = absurd h
names_stand (f ∷ fs) [] h = absurd h

body_if : (k : FileKey) (b c : Bool) (f : FileState) (g : File) (o : Option FileState) (p : Option File) → b ≡ c → HasBody f g.body → HasBody (file_or_new k o) (body_or_none p)
    → HasBody (file_or_new k (if b then Some f else o)) (body_or_none (if c then Some g else p))
body_if k true true f g o p same here there = here
body_if k false false f g o p same here there = there
body_if k true false f g o p same here there = cc
body_if k false true f g o p same here there = cc

-- the file with that key has the body of the map's; both have no bytes where there is none
pub file_stands : (k : FileKey) (fs : List FileState) (gs : List File) → Stands fs gs → HasBody (file_at k fs) (body_of k gs)
file_stands k [] [] h = new_body k []
file_stands k (f ∷ fs) (g ∷ gs) h =
    body_if k (same_key f.key k) (same_key g.key k) f g (find_key (λ x. x.key) k fs) (find_key (λ x. x.key) k gs) (ap (λ j. same_key j k) h.0.key) h.0.body (file_stands k fs gs h.1)
file_stands k [] (g ∷ gs) h = absurd h
file_stands k (f ∷ fs) [] h = absurd h

found_if : (b c : Bool) (f : FileState) (g : File) (o : Option FileState) (p : Option File) → b ≡ c → is_some o ≡ is_some p → is_some (if b then Some f else o) ≡ is_some (if c then Some g else p)
found_if true true f g o p same rest = refl
found_if false false f g o p same rest = rest
found_if true false f g o p same rest = cc
found_if false true f g o p same rest = cc

-- the store has a file with that key where the map has one
pub found_stands : (k : FileKey) (fs : List FileState) (gs : List File) → Stands fs gs → is_some (find_key (λ f. f.key) k fs) ≡ is_some (find_key (λ g. g.key) k gs)
found_stands k [] [] h = refl
found_stands k (f ∷ fs) (g ∷ gs) h =
    found_if (same_key f.key k) (same_key g.key k) f g (find_key (λ x. x.key) k fs) (find_key (λ x. x.key) k gs) (ap (λ j. same_key j k) h.0.key) (found_stands k fs gs h.1)
found_stands k [] (g ∷ gs) h = absurd h
found_stands k (f ∷ fs) [] h = absurd h
