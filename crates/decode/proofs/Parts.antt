-- A record part by part: what it is once a part can't be read, or once all of them can.
use mathlib.Core.Path.{◌≡◌}
use mathlib.Core.Bool.{true, false}
use mathlib.Core.List.{List}
use Prim.Native.Nat.{ℕ, ◌-◌}
use lib.ListN.{take, drop}
use Rattle.class.specs.Class.{Classes}
use Rattle.parse.specs.Part.{byte_at}
use Rattle.id.specs.Id.{id_at}
use Rattle.parse.specs.Line.{newline_at, text_at, text_ends}
use Rattle.name.specs.Name.{valid_name}
use Rattle.decode.specs.declared.reference.Fault.TheVariants.{Id, Space, LineEnd, Name, Peeled}
use Rattle.decode.specs.Record.{record_of}
use Rattle.std.specs.declared.option.Option.TheVariants.{None, Some}
use Rattle.std.specs.declared.result.Result.TheVariants.{Err, Ok}

module _ (byte : Classes) (n : ℕ) (s : List ℕ) where
  pub no_id : id_at byte n s 0 ≡ None → record_of byte n s ≡ Err Id
  unfolding record_of
  no_id h = rw h

  module _ {idEnd : ℕ} (id : id_at byte n s 0 ≡ Some idEnd) where
    pub no_space : byte_at 32 s idEnd ≡ None → record_of byte n s ≡ Err Space
    unfolding record_of
    no_space h = rw (id, h)

    module _ {from : ℕ} (space : byte_at 32 s idEnd ≡ Some from) where
      pub no_line_end : text_at byte s from ≡ None → record_of byte n s ≡ Err LineEnd
      unfolding record_of
      no_line_end h = rw (id, space, h)

      module _ {end next : ℕ} (text : text_at byte s from ≡ text_ends end next) where
        pub no_name : valid_name byte (take (end - from) (drop from s)) ≡ false → record_of byte n s ≡ Err Name
        unfolding record_of
        no_name h = rw (id, space, text, h)

        module _ (name : valid_name byte (take (end - from) (drop from s)) ≡ true) where
          pub plain_record : byte_at 94 s next ≡ None → record_of byte n s ≡ Ok (record { name_len = end - from; peeled = None; size = next })
          unfolding record_of
          plain_record h = rw (id, space, text, name, h)

          module _ {peeled : ℕ} (caret : byte_at 94 s next ≡ Some peeled) where
            pub no_peeled_id : id_at byte n s peeled ≡ None → record_of byte n s ≡ Err Peeled
            unfolding record_of
            no_peeled_id h = rw (id, space, text, name, caret, h)

            module _ {peeledEnd : ℕ} (peeled_id_lem : id_at byte n s peeled ≡ Some peeledEnd) where
              pub no_peeled_end : newline_at s peeledEnd ≡ None → record_of byte n s ≡ Err Peeled
              unfolding record_of
              no_peeled_end h = rw (id, space, text, name, caret, peeled_id_lem, h)

              pub peeled_record : {size : ℕ} → newline_at s peeledEnd ≡ Some size
                  → record_of byte n s ≡ Ok (record { name_len = end - from; peeled = Some peeled; size = size })
              unfolding record_of
              peeled_record h = rw (id, space, text, name, caret, peeled_id_lem, h)
