mod Held
