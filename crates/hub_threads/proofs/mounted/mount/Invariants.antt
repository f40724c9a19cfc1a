use Rattle.hub_threads.proofs.mounted.mount.Given as goal

-- the script that is mounted
abbrev pub ghosts-mount_picked : goal.ghosts-mount_picked
ghosts-mount_picked g a = record { script = a.script; plans = a.plans }
