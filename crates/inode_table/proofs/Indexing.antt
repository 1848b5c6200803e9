-- The map from names, after one name more and after one less.
use Rattle.std.proofs.Common.{◌≡◌, ℕ, List, Bool, true, false, cond, Option, Some, None, refl, sym, ◌∙◌, ap, subst, ⊎_elim}
use Rattle.std.proofs.lemmas.Bool.{cases_Bool, cond-true, cond-false}
use Rattle.std.proofs.lemmas.Cmp.{nat_list_eq_equiv}
use Rattle.std.proofs.lemmas.Slice.Eq.{bytes_eq-Decides}
use Rattle.std.specs.Global.{Vec}
use Rattle.std.specs.Map.{lookup, KeepsOthers}
use Rattle.std.specs.Option.{option_map}
use Rattle.std.specs.Str.{bytes_eq}
use Rattle.hsm_types.specs.declared.keys.FileKey.{FileKey}
use Rattle.hsm_types.specs.Keyed.{find_key, put_key, drop_key}
use Rattle.hsm_types.specs.Listing.{Listed, named}
use Rattle.inode_table.specs.declared.entries.FileEntry.{FileEntry}
use Rattle.inode_table.specs.Listing.{listed, listing, key_named, Differ}
use Rattle.inode_table.specs.Index.{Indexes}
use Rattle.inode_table.proofs.Names.{named-put, named-drop}
use Rattle.inode_table.proofs.Listings.{listing-put, listing-drop, found-listed}

apart : (bs cs ks : List ℕ) → bytes_eq bs cs ≡ false → bytes_eq bs ks ≡ true → bytes_eq cs ks ≡ false
apart bs cs ks n y = nat_list_eq_equiv.symm cs ks ∙ sym (nat_list_eq_equiv.congr bs ks cs y) ∙ n

others : (eq : Vec ℕ → Vec ℕ → Bool) (test : Vec ℕ → Bool) (old new : List (Vec ℕ × FileKey)) → KeepsOthers eq test old new → (other : Vec ℕ → Bool) → ((x y : Vec ℕ) → other x ≡ true → other y ≡ eq x y) → ((k : Vec ℕ) → test k ≡ true → other k ≡ false) → lookup other new ≡ lookup other old
unfolding KeepsOthers
others eq test old new h = h

-- after a change of what the map has under one name
changed : (name : List ℕ) (w : Option FileKey) (old new : List (Vec ℕ × FileKey)) → lookup (λ k. bytes_eq name k.items) new ≡ w
    → KeepsOthers (λ x y. bytes_eq x.items y.items) (λ k. bytes_eq name k.items) old new → (q : List ℕ) → lookup (λ k. bytes_eq q k.items) new ≡ cond (bytes_eq name q) w (lookup (λ k. bytes_eq q k.items) old)
changed name w old new here keeps q =
    let L : List ℕ → Type 0 = λ r. lookup (λ (k : Vec ℕ). bytes_eq r k.items) new ≡ w in
    ⊎_elim
    (λ yes. subst L ((bytes_eq-Decides name q).0 yes) here ∙ sym (cond-true (bytes_eq name q) w (lookup (λ k. bytes_eq q k.items) old) yes))
    (λ differs. others (λ x y. bytes_eq x.items y.items) (λ k. bytes_eq name k.items) old new keeps (λ k. bytes_eq q k.items) (λ x y. nat_list_eq_equiv.congr q x.items y.items) (λ k. apart name q k.items differs)
    ∙ sym (cond-false (bytes_eq name q) w (lookup (λ k. bytes_eq q k.items) old) differs))
    (cases_Bool (bytes_eq name q))

through : (b : Bool) (x y : Option Listed) → cond b (option_map (λ l. l.key) x) (option_map (λ l. l.key) y) ≡ option_map (λ (l : Listed). l.key) (cond b x y)
through true x y = refl
through false x y = refl

pub indexes-put : (e : FileEntry) (es : List FileEntry) (old new : List (Vec ℕ × FileKey)) → named e.name (listing es) ≡ None → Indexes old (listing es) → lookup (λ k. bytes_eq e.name k.items) new ≡ Some e.key
    → KeepsOthers (λ x y. bytes_eq x.items y.items) (λ k. bytes_eq e.name k.items) old new → Indexes new (listing (put_key (λ f. f.key) e es))
indexes-put e es old new none index here keeps = λ q.
    changed e.name (Some e.key) old new here keeps q
    ∙ ap (λ (o : Option FileKey). cond (bytes_eq e.name q) (Some e.key) o) (index q)
    ∙ through (bytes_eq e.name q) (Some (listed e)) (named q (listing es))
    ∙ ap (λ (o : Option Listed). option_map (λ l. l.key) o) (sym (named-put (listed e) (listing es) q none))
    ∙ ap (λ (ls : List Listed). key_named q ls) (sym (listing-put e es))

pub indexes-drop : (k : FileKey) (f : FileEntry) (es : List FileEntry) (old new : List (Vec ℕ × FileKey)) → Differ (listing es) → find_key (λ g. g.key) k es ≡ Some f → Indexes old (listing es) → lookup (λ v. bytes_eq f.name v.items) new ≡ None
    → KeepsOthers (λ x y. bytes_eq x.items y.items) (λ v. bytes_eq f.name v.items) old new → Indexes new (listing (drop_key (λ g. g.key) k es))
indexes-drop k f es old new differ found index here keeps = λ q.
    changed f.name None old new here keeps q
    ∙ ap (λ (o : Option FileKey). cond (bytes_eq f.name q) None o) (index q)
    ∙ through (bytes_eq f.name q) None (named q (listing es))
    ∙ ap (λ (o : Option Listed). option_map (λ l. l.key) o) (sym (named-drop k (listed f) (listing es) q differ (found-listed k f es found)))
    ∙ ap (λ (ls : List Listed). key_named q ls) (sym (listing-drop k es))
