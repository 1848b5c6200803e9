-- The names that several proofs cite, passed on from one place.
pub use Rattle.std.proofs.Common.{◌≡◌, inl, inr, ⊎_elim, ℕ, ◌+◌, ◌*◌, ◌<◌, ◌≤◌, ◌^◌, ◌==◌, Bool, true, false, if◌then◌else◌, List, length, sym, ◌∙◌, ap}
pub use Rattle.std.proofs.Common.{subst, arith, zero, suc, [], ◌∷◌, ◌++◌, map, get_or, take, refl, rules, ◌⊎◌, ◌-◌, ◌/◌, ◌%◌, drop, set, Option, Some, None}
pub use Rattle.std.proofs.Common.{length-append, length-take, length-set, get_or-set_same, get_or-set_other, replicate, max, ltb, eqb, ◌&&◌, is_some}
pub use Rattle.std.proofs.Common.{slice_index_or, cond, IsSome, option_map, unwrap_or, min, take_all, ◌||◌, All, Err, append_assoc, slice_get}
pub use Rattle.std.proofs.lemmas.Bool.{false≢true, false_from_ne_true, cases_lt, cases_eq, cond_both, ltb-true, and_parts, and_from, lt-ltb, eqb-true}
pub use Rattle.std.proofs.lemmas.Bool.{eqb-false}
pub use Rattle.std.proofs.lemmas.List.{length-map, map-append, ext_get_or, length-replicate, get_or-take, get_or_append_left, get_or-append_right, places}
pub use Rattle.std.proofs.lemmas.List.{same_lists, map-set, take-map, get_or-replicate, get_or_past, take_more, drop_more, drop_all, get_or_read}
pub use Rattle.std.proofs.lemmas.List.Elements.{All-from_recursion, recursion_from_All, All-weaker}
pub use Rattle.std.proofs.lemmas.List.Sums.{sum-map, sum_by-cons, sum_by-set}
pub use Rattle.std.proofs.lemmas.Option.{slice_get_within, get_or_from_slice_get}
pub use Rattle.std.specs.List.{AllByRecursion, list_any, flat_map, fold, sum, sum_by}
pub use Rattle.block_space.proofs.Marks.{length-marked, marked_keeps}
pub use Rattle.block_space.proofs.Members.{All-has, Ascend, All-from_has, Ascend-low}
pub use Rattle.block_space.proofs.Spaces.{others_are_free, taken_are_free, take_adds_others, marks_are_members, marks_join, releases-leave, release_undoes_take}
pub use Rattle.block_space.specs.Laws.{IsFree}
pub use Rattle.block_space.specs.Space.{Space, free, marked, unmarked}
pub use Rattle.commit_slots.specs.Places.{layout_of, IsApart}
pub use Rattle.commit_slots.specs.declared.places.Layout.{Layout}
pub use Rattle.disk_model.proofs.Steps.{started, turns_leave, turns_now, joined, weakened, holds_on, holds_now, idle, keeps_on, kept_by, given_on}
pub use Rattle.disk_model.specs.Images.{part, IsFreed, IsWritten, Follows}
pub use Rattle.disk_model.specs.Moments.{Keeps, MayBe, Same}
pub use Rattle.disk_model.specs.declared.device.Disk.{Ghosts}
pub use Rattle.file_body.proofs.Sizes.{length-written, length-resized}
pub use Rattle.file_body.specs.HeldBodies.{HeldBody, no_body, is_away, AreZeros}
pub use Rattle.file_store.specs.Bodies.{held_at, block_of, block_at, body_at, bytes_at, held_with, file_by, body_with, bytes_with, IsHere, IsBody, IsAlike}
pub use Rattle.file_store.specs.Bodies.{AreBodies}
pub use Rattle.file_store.specs.Effects.{held_after, IsBodiless, empties}
pub use Rattle.file_store.specs.HeldFiles.{IsHeldFiles}
pub use Rattle.file_store.specs.Rewrites.{new_size, touched_of, grown, places_for, mappings_of, effect_of, IsRewrite, IsAllowedBy, remapped, places_under}
pub use Rattle.file_store.specs.Rewrites.{freed_by, IsWithin, HasEntry, brings, BringsOffline, BringsAway, HasRoom, HasRange, spares, unseals, unsealing}
pub use Rattle.file_store.specs.Rewrites.{IsHead, AreUnsealed, mappings_in, IsMapOn, IsRewriting}
pub use Rattle.file_store.specs.Steps.{IsStaged, IsBesideBlocks, places_of, HasBlocks, OnlyReads}
pub use Rattle.file_store.specs.Stores.{Store, IsDurable, IsEither, Proceeds, IsLive, IsSound, marks_of, told_of, told_held, Shows, IsLawful}
pub use Rattle.file_store.specs.declared.rewrites.Rewrite.{Rewrite}
pub use Rattle.file_store.specs.declared.rewrites.Rewrite.TheVariants.{Write, Resize, Restore}
pub use Rattle.hsm_types.specs.Kept.{Kept}
pub use Rattle.hsm_types.specs.Limits.{last_generation, last_number}
pub use Rattle.hsm_types.specs.declared.keys.FileKey.{FileKey}
pub use Rattle.inode_table.proofs.Orders.{free-ge, free-le, free-absent, absent-low, ascend-drop}
pub use Rattle.inode_table.specs.Listing.{Within, has_inode}
pub use Rattle.inode_table.specs.Table.{entry_of, next_key as next_listed, Table}
pub use Rattle.snapshot_text.proofs.BlockUses.{uses, uses-append, distinct-uses, absent-unused, uses-distinct}
pub use Rattle.meta_store.proofs.FileEdits.{map-find, map-put, map-drop, each-drop, total-drop, used-sum, name_of, uses_of, uses-sum, sum-put, sum-drop}
pub use Rattle.meta_store.proofs.FileEdits.{sum-change, blocks-change, names_of-change, each-put, each-change, names_of-drop}
pub use Rattle.meta_store.proofs.FoundFiles.{each-found, key-found}
pub use Rattle.meta_store.proofs.KeptCatalogs.{empty_file}
pub use Rattle.snapshot_text.proofs.MappedPlaces.{length-fitted, length-places_set, present-fitted, uses-fitted, uses-mapped}
pub use Rattle.meta_store.proofs.SnapshotFits.{files-few, blocks-few, blocks-within, geometry-bounded, limits_countable, size-few}
pub use Rattle.hsm_types.specs.declared.stores.Geometry.{Geometry}
pub use Rattle.hsm_types.specs.declared.stores.Limits.{Limits}
pub use Rattle.meta_store.specs.Catalogs.{Catalog, blocks_of, IsCatalog, names_of as names_in, names_of}
pub use Rattle.snapshot_text.specs.Files.{geometry_of, present, CatalogFile, IsCatalogFile}
pub use Rattle.meta_store.specs.Images.{Holds, blocks_in_image, Recovers}
pub use Rattle.meta_store.proofs.HeldImages.{image_size}
pub use Rattle.meta_store.specs.Meta.{Meta, Backs, IsMeta, StoresOrKeeps, HasStored, IsStoredNow}
pub use Rattle.snapshot_text.specs.FileRecords.{places_fitted, places_set, file_after}
pub use Rattle.journal_records.specs.Texts.{inode_of}
pub use Rattle.meta_store.specs.Records.{with_changed, kept_at, others_total, key_on, IsNewFile, after}
pub use Rattle.meta_store.specs.Records.{CanStand, after_all, refusal_of_all, IsMappable, CanStandAll, IsEvent, refusal_of}
pub use Rattle.snapshot_text.specs.FileRecords.{mappings_from, IsSure}
pub use Rattle.journal_records.specs.declared.records.Record.{Record}
pub use Rattle.journal_records.specs.declared.records.Record.TheVariants.{Make, Drop, Size, Map, Stub}
pub use Rattle.snapshot_text.specs.declared.snapshot.Mapping.{Mapping}
pub use Rattle.plain_model.specs.Blocks.{blocks_in, old_end, touched, size_after, from_on, met, with_mapped, fitted, mapped_after}
pub use Rattle.plain_model.specs.Distinct.{Distinct}
pub use Rattle.plain_model.specs.Effects.{Effect, Makes}
pub use Rattle.hsm_types.specs.Keyed.{find_key, change_key, put_key, drop_key}
pub use Rattle.plain_model.specs.Plain.{written, resized, rebody, Listed, greatest, named, free_inode}
pub use Rattle.plain_model.specs.State.{affected_held, Held, FileState, file_at as held_file, rekept, used, used_by, next_key, bytes_of, remade}
pub use Rattle.plain_model.specs.State.{next_key as next_held}
