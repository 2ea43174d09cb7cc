-- The bytes of the lines that a workload makes.
use Rattle.std.specs.Prelude.{ℕ, List, ◌++◌, ◌+◌, ◌%◌, codes, decimal}
use Rattle.fnc_made.specs.declared.made.Made.{Made}

-- The bytes of a line. Target K has the device K modulo 8 in its first level, and the two after it in its second.
abbrev pub made_text : Made → List ℕ
made_text (Made.Device k) =
    codes "0 device d" ++ decimal k ++ codes " pcmk_on_timeout=10s pcmk_off_timeout=10s pcmk_reboot_timeout=10s"
made_text (Made.First k) = codes "0 level 1 n" ++ decimal k ++ codes " d" ++ decimal (k % 8)
made_text (Made.Second k) =
    codes "0 level 2 n" ++ decimal k ++ codes " d" ++ decimal ((k % 8 + 1) % 8) ++ codes ",d"
    ++ decimal ((k % 8 + 2) % 8)
made_text (Made.Off m k) = decimal m ++ codes " ask c off n" ++ decimal k
made_text (Made.Reboot m k) = decimal m ++ codes " ask c reboot n" ++ decimal k
made_text (Made.Exit m run code) = decimal m ++ codes " exit " ++ decimal run ++ codes " " ++ decimal code
made_text (Made.Pass m) = decimal m ++ codes " pass"
